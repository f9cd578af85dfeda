use Rattle.std.proofs.Common.{length}
use Rattle.arc_map.specs.Edges.{EachOf}
use Rattle.plane_sweep.specs.Passage.{EndsAt}
use Rattle.plane_sweep.specs.Spans.{spans_in}
use Rattle.plane_sweep.proofs.active.all_end.Given as goal

abbrev pub invariant-loop-number : goal.invariant-loop-number
invariant-loop-number l = EachOf (EndsAt l.q l.hub) (spans_in l.spans l.rest) → EachOf (EndsAt l.q l.hub) (spans_in l.spans l.fn.block)

abbrev pub decreases-loop-number : goal.decreases-loop-number
decreases-loop-number l = length l.rest
