use Rattle.std.proofs.Common.{length}
use Rattle.plane_sweep.specs.Spans.{spans_in}
use Rattle.plane_sweep.proofs.Sweeping.{Sweeps}
use Rattle.plane_sweep.proofs.walk.pass_all.Given as goal

abbrev pub invariant-loop-q : goal.invariant-loop-q
invariant-loop-q l = Sweeps (spans_in l.spans l.numbers) l.places (spans_in l.spans l.left) l.rest (spans_in l.spans l.active.items)

abbrev pub decreases-loop-q : goal.decreases-loop-q
decreases-loop-q l = length l.rest
