-- The place is in the box of the edge that is looked at, or in none up to it.
use Rattle.std.proofs.Common.{arith}
use Rattle.std.proofs.lemmas.Bool.{iff_false}
use Rattle.chain_reach.proofs.Numbered.{box_found, no_box_more, says_no, says_yes}
use Rattle.chain_reach.proofs.steps.reaches.Goals as goal

pub returns-then-is_near : goal.returns-then-is_near
returns-then-is_near c = says_yes (box_found c.args.steps c.args.walk.now c.args.p c.index-walk-end.result
    c.index-walk-end-in-loop-end.result c.loop-end.end (omega arith) (omega arith) c.index-walk-end.is c.index-walk-end-in-loop-end.is
    (c.is_near.ensures.0 c.if-is_near.true))

pub loop-end-preserved : goal.loop-end-preserved
loop-end-preserved c = no_box_more c.args.steps c.args.walk.now c.args.p c.index-walk-end.result c.index-walk-end-in-loop-end.result
    c.loop-end.end (omega arith) (omega arith) c.index-walk-end.is c.index-walk-end-in-loop-end.is
    (iff_false c.is_near.ensures c.if-is_near.false) c.loop-end.invariant

pub returns : goal.returns
returns c = says_no (λ h. c.loop-end.invariant h.edge (omega (arith, h.within)) h.box)
