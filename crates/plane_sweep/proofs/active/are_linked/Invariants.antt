use Rattle.std.proofs.Common.{length}
use Rattle.plane_sweep.specs.Meeting.{EndsUnder}
use Rattle.plane_sweep.specs.Passage.{Chained}
use Rattle.plane_sweep.specs.Spans.{spans_in}
use Rattle.plane_sweep.proofs.active.are_linked.Given as goal

abbrev pub invariant-loop-number : goal.invariant-loop-number
invariant-loop-number l = Chained EndsUnder (spans_in l.spans l.rest) → Chained EndsUnder (spans_in l.spans l.fn.numbers)

abbrev pub decreases-loop-number : goal.decreases-loop-number
decreases-loop-number l = length l.rest
