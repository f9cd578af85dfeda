use Rattle.face_parity.specs.Celled.{AreCelledBefore}
use Rattle.face_parity.proofs.cells.push_run.Given as goal

abbrev pub invariant-loop-row : goal.invariant-loop-row
invariant-loop-row l = AreCelledBefore l.runs l.fn.limits l.width l.height l.number l.row l.celled.items
