use Rattle.std.proofs.Common.{◌-◌}
use Rattle.plane_sweep.specs.Spans.{AreSpansBefore}
use Rattle.plane_sweep.proofs.spans.push_arc.Given as goal

abbrev pub invariant-loop-at : goal.invariant-loop-at
invariant-loop-at l = AreSpansBefore l.map l.arc (l.at - 1) l.spans.items
