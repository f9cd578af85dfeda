-- The groups so far are on the left.
use Rattle.std.proofs.Common.{◌-◌, ◌≤◌, length, pos, ◌<ℤ◌}
use Rattle.grid_exact.specs.Geometry.{area_of}
use Rattle.lane_kernels.specs.Places.{EachBetween}
use Rattle.lane_kernels.proofs.side.first_off_left.Given as goal

abbrev pub invariant-loop-at : goal.invariant-loop-at
invariant-loop-at l = record {
  in_lists : l.at ≤ length l.xs;
  tested : EachBetween 0 l.at (λ p. pos 0 <ℤ area_of l.a l.b p) l.xs l.ys;
}

abbrev pub decreases-loop-at : goal.decreases-loop-at
decreases-loop-at l = length l.xs - l.at
