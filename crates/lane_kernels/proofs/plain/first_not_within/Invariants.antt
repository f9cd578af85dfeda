-- The places so far are within the bound.
use Rattle.grid_exact.specs.Geometry.{IsWithin}
use Rattle.lane_kernels.specs.Places.{EachBetween}
use Rattle.lane_kernels.proofs.plain.first_not_within.Given as goal

abbrev pub invariant-loop-k : goal.invariant-loop-k
invariant-loop-k l = EachBetween l.from l.k (λ p. IsWithin l.a l.b p l.bound) l.xs l.ys
