use Rattle.face_parity.specs.Celled.{AreWideTo}
use Rattle.face_parity.proofs.cells.wide_of.Given as goal

abbrev pub invariant-loop-number : goal.invariant-loop-number
invariant-loop-number l = AreWideTo l.runs l.limits l.number l.wide.items
