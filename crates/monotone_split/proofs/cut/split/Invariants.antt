-- The arcs so far are cut.
use Rattle.monotone_split.proofs.CutSoFar.{SplitSoFar}
use Rattle.monotone_split.proofs.cut.split.Given as goal

abbrev pub invariant-loop-number : goal.invariant-loop-number
invariant-loop-number l = SplitSoFar l.map l.number l.chains.items
