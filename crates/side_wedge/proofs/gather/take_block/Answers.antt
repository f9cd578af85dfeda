-- What is found in the box round the block.
use Rattle.sweep_index.specs.Walk.{items_left}
use Rattle.side_wedge.proofs.Gathering.{block_taken}
use Rattle.side_wedge.proofs.gather.take_block.Goals as goal

pub returns-clause-strays : goal.returns-clause-strays
returns-clause-strays c t to =
    let s = c.args.subject.now in
    block_taken s.direction.frame s.direction.rising s.chain.now s.number s.steps c.args.map.now c.args.whole.now c.block_round-block.result
    c.args.start
    c.args.end (items_left c.in_box.result) c.args.strays.now.items c.collect.new.strays.items c.in_box.ensures
    c.block_round-block.ensures c.requires.round c.requires.within (c.collect.ensures.strays t) to
