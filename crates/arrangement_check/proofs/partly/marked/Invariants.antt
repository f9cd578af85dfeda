use Rattle.arrangement_check.proofs.Marking.{AreMarkedBelow}
use Rattle.arrangement_check.proofs.partly.marked.Given as goal

abbrev pub invariant-loop-arc : goal.invariant-loop-arc
invariant-loop-arc l = AreMarkedBelow l.marks l.arc l.arcs.items
