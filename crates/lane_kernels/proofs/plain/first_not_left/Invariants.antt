-- The places so far are on the left.
use Rattle.std.proofs.Common.{pos, ◌<ℤ◌}
use Rattle.grid_exact.specs.Geometry.{area_of}
use Rattle.lane_kernels.specs.Places.{EachBetween}
use Rattle.lane_kernels.proofs.plain.first_not_left.Given as goal

abbrev pub invariant-loop-k : goal.invariant-loop-k
invariant-loop-k l = EachBetween l.from l.k (λ p. pos 0 <ℤ area_of l.a l.b p) l.xs l.ys
