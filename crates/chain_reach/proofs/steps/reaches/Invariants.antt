-- The place is in the box of no edge so far.
use Rattle.chain_reach.proofs.Numbered.{IsInNoBox}
use Rattle.chain_reach.proofs.steps.reaches.Given as goal

abbrev pub invariant-loop-end : goal.invariant-loop-end
invariant-loop-end l = IsInNoBox l.steps l.walk l.p l.end
