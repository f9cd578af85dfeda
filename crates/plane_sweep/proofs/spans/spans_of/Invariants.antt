use Rattle.plane_sweep.specs.Spans.{AreSpansBefore}
use Rattle.plane_sweep.proofs.spans.spans_of.Given as goal

abbrev pub invariant-loop-arc : goal.invariant-loop-arc
invariant-loop-arc l = AreSpansBefore l.map l.arc 0 l.spans.items
