use Rattle.std.proofs.Common.{length}
use Rattle.plane_sweep.specs.Passage.{Chained, TurnsUp}
use Rattle.plane_sweep.specs.Spans.{spans_in}
use Rattle.plane_sweep.proofs.active.is_fan.Given as goal

abbrev pub invariant-loop-number : goal.invariant-loop-number
invariant-loop-number l = Chained TurnsUp (spans_in l.spans l.rest) → Chained TurnsUp (spans_in l.spans l.fn.new)

abbrev pub decreases-loop-number : goal.decreases-loop-number
decreases-loop-number l = length l.rest
