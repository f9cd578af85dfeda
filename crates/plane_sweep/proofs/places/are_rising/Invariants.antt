use Rattle.std.proofs.Common.{length}
use Rattle.grid_exact.specs.Geometry.{IsBefore}
use Rattle.plane_sweep.specs.Passage.{Chained}
use Rattle.plane_sweep.proofs.places.are_rising.Given as goal

abbrev pub invariant-loop-place : goal.invariant-loop-place
invariant-loop-place l = Chained IsBefore l.rest → Chained IsBefore l.fn.places

abbrev pub decreases-loop-place : goal.decreases-loop-place
decreases-loop-place l = length l.rest
