-- The groups so far are within the bound.
use Rattle.std.proofs.Common.{◌-◌, ◌≤◌, length}
use Rattle.grid_exact.specs.Geometry.{IsWithin}
use Rattle.lane_kernels.specs.Places.{EachBetween}
use Rattle.lane_kernels.proofs.within.first_beyond.Given as goal

abbrev pub invariant-loop-at : goal.invariant-loop-at
invariant-loop-at l = record {
  in_lists : l.at ≤ length l.xs;
  tested : EachBetween 0 l.at (λ p. IsWithin l.a l.b p l.bound) l.xs l.ys;
}

abbrev pub decreases-loop-at : goal.decreases-loop-at
decreases-loop-at l = length l.xs - l.at
