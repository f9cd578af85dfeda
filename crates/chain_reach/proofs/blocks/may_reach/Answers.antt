-- What is near an edge is in its box.
use Rattle.chain_reach.proofs.Numbered.{near_in_some_box}
use Rattle.chain_reach.proofs.blocks.may_reach.Goals as goal

pub returns : goal.returns
returns c near = c.reaches.ensures.1 (near_in_some_box c.args.steps c.args.walk.now c.args.p near)
