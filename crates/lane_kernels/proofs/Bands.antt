-- A place in the band of a segment, up to the root of the squared bound times the squared length, is within the bound.
use Rattle.std.proofs.Common.{ℕ, ℤ, pos, ◌+ℤ◌, ◌-ℤ◌, ◌*ℤ◌, ◌≤ℤ◌, List, refl, arith}
use Rattle.grid_exact.specs.Geometry.{Place, area_of, length2_of, square_of, IsWithin}
use Rattle.grid_exact.proofs.WholeLaws.{sums}
use Rattle.grid_exact.proofs.Signs.{times_nonnegative}
use Rattle.grid_exact.proofs.Polynomial.{◌⊕◌, ◌⊖◌, ◌⊗◌, ◌≈◌, identity_2}
use Rattle.grid_exact.proofs.Nearness.{within_beside}
use Rattle.lane_kernels.specs.Places.{EachBetween}
use Rattle.lane_kernels.specs.Band.{IsInBand}

pub band_is_within : (a b : Place) (reach bound : ℤ) (p : Place) → square_of reach ≤ℤ (square_of bound *ℤ length2_of a b)
    → IsInBand a b reach p → IsWithin a b p bound
band_is_within a b reach bound p root h =
    let right = h.not_right in
    let left = h.not_left in
    let o = area_of a b p in
    let apart = identity_2 reach o (λ r o. r ⊗ r ⊖ o ⊗ o ≈ (r ⊖ o) ⊗ (r ⊕ o)) refl in
    let room : pos 0 ≤ℤ ((reach -ℤ o) *ℤ (reach +ℤ o)) = times_nonnegative (reach -ℤ o) (reach +ℤ o) (omega (arith, sums))
    (omega (arith, sums)) in
    (within_beside a b p bound h.past_start h.before_end).0 (omega (arith, sums))

pub each_in_band : (from to : ℕ) (a b : Place) (reach bound : ℤ) (xs ys : List ℤ) → square_of reach ≤ℤ (square_of bound *ℤ length2_of a b)
    → EachBetween from to (IsInBand a b reach) xs ys → EachBetween from to (λ p. IsWithin a b p bound) xs ys
each_in_band from to a b reach bound xs ys root h k low high = band_is_within a b reach bound _ root (h k low high)
