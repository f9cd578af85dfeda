use Rattle.std.proofs.Common.{length, ◌⊎◌}
use Rattle.std.specs.Prelude.{Contains}
use Rattle.grid_exact.specs.Geometry.{Place}
use Rattle.plane_sweep.proofs.places.distinct.Given as goal

abbrev pub invariant-loop-place : goal.invariant-loop-place
invariant-loop-place l = (p : Place) → Contains l.places p → Contains l.rest p ⊎ Contains l.kept.items p

abbrev pub decreases-loop-place : goal.decreases-loop-place
decreases-loop-place l = length l.rest
