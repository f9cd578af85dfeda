-- The arcs are cut, one after the other.
use Rattle.monotone_split.proofs.CutSoFar.{split_goes_on, split_ends, refs_bounded}
use Rattle.std.proofs.Common.{arith}
use Rattle.monotone_split.proofs.cut.split.Goals as goal

pub loop-number-preserved : goal.loop-number-preserved
loop-number-preserved c =
    let count = c.arc_count-number-end.ensures.value in
    split_goes_on c.args.map.now c.loop-number.number c.loop-number.chains.items c.cut_arc.new.chains.items (omega arith)
    c.loop-number.invariant c.in_ok-cut_arc.ensures

pub returns-clause-chains : goal.returns-clause-chains
returns-clause-chains c =
    let count = c.arc_count-number-end.ensures.value in
    split_ends c.args.map.now c.loop-number.number c.loop-number.chains.items (omega arith) c.loop-number.invariant

pub returns-clause-bounds : goal.returns-clause-bounds
returns-clause-bounds c =
    let count = c.arc_count-number-end.ensures.value in
    refs_bounded c.args.map.now c.loop-number.number c.loop-number.chains.items c.arc_count-number-end.ensures.is_map (omega arith)
    c.loop-number.invariant
