use Rattle.face_parity.specs.Celled.{AreCelledBefore}
use Rattle.face_parity.proofs.cells.celled_of.Given as goal

abbrev pub invariant-loop-number : goal.invariant-loop-number
invariant-loop-number l = AreCelledBefore l.runs l.limits l.width l.height l.number 0 l.celled.items
