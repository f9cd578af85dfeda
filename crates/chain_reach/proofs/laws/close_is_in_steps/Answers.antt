-- The law is a lemma.
use Rattle.chain_reach.proofs.Pairs.{close_is_in_steps}
use Rattle.chain_reach.proofs.laws.close_is_in_steps.Goals as goal

pub returns : goal.returns
returns c = close_is_in_steps
