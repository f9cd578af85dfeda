use Rattle.face_parity.specs.Floors.{AreSpansTo}
use Rattle.face_parity.proofs.floors.spans_of.Given as goal

abbrev pub invariant-loop-arc : goal.invariant-loop-arc
invariant-loop-arc l = AreSpansTo l.topology l.arc l.spans.items
