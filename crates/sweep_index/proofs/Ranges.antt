-- Ranges of coordinates have a number in common where the ranges of their offsets overlap.
use Rattle.std.proofs.Common.{◌≡◌, inl, inr, ◌^◌, ◌≤◌, ℤ, pos, negsuc, ◌+ℤ◌, ◌≤ℤ◌, min, max, arith, subst}
use Rattle.std.proofs.lemmas.Bool.{cases_lt}
use Rattle.std.proofs.lemmas.Int.{ints}
use Rattle.grid_exact.specs.Geometry.{IsGridNumber, IsBetween}
use Rattle.grid_exact.specs.Geometry.IsBetween.{Rising, Falling}
use Rattle.sweep_index.specs.Boxes.{RangesMeet}
use Rattle.sweep_index.specs.Offsets.{offset_of}
use Rattle.sweep_index.proofs.Orders.{offset_rises}

offset_is : (z : ℤ) → IsGridNumber z → pos (offset_of z) ≡ z +ℤ pos (2 ^ 29)
offset_is (pos n) grid = omega (arith, ints)
offset_is (negsuc n) grid = let low = grid.low in omega (arith, ints)

order_from_offsets : (a b : ℤ) → IsGridNumber a → IsGridNumber b → offset_of a ≤ offset_of b → a ≤ℤ b
order_from_offsets a b first second h =
    let p = offset_is a first in
    let q = offset_is b second in
    omega (arith, ints)

between_low : (a b v : ℤ) → IsBetween a b v → min (offset_of a) (offset_of b) ≤ offset_of v
between_low a b v (Rising low high) = let step = offset_rises a v low in omega (arith, step)
between_low a b v (Falling low high) = let step = offset_rises b v low in omega (arith, step)

between_high : (a b v : ℤ) → IsBetween a b v → offset_of v ≤ max (offset_of a) (offset_of b)
between_high a b v (Rising low high) = let step = offset_rises v b high in omega (arith, step)
between_high a b v (Falling low high) = let step = offset_rises v a high in omega (arith, step)

pub between_from_offsets : (a b v : ℤ) → IsGridNumber a → IsGridNumber b → IsGridNumber v → min (offset_of a) (offset_of b) ≤ offset_of v
    → offset_of v ≤ max (offset_of a) (offset_of b) → IsBetween a b v
between_from_offsets a b v first second third low high = elim (cases_lt (offset_of a) (offset_of b)) [
  | inl up ↦ Rising (order_from_offsets a v first third (omega (arith, up, low)))
      (order_from_offsets v b third second (omega (arith, up, high)))
  | inr down ↦ Falling (order_from_offsets b v second third (omega (arith, down, low)))
      (order_from_offsets v a third first (omega (arith, down, high)))
]

pub offsets_from_between : (a b v : ℤ) → IsBetween a b v → (min (offset_of a) (offset_of b) ≤ offset_of v)
    × (offset_of v ≤ max (offset_of a) (offset_of b))
offsets_from_between a b v between = (between_low a b v between, between_high a b v between)

pub meet_flips : (a b c d : ℤ) → RangesMeet a b c d → RangesMeet c d a b
meet_flips a b c d meet = record { at = meet.at; first = meet.second; second = meet.first }

pub overlap_from_meet : (a b c d : ℤ) → RangesMeet a b c d → min (offset_of a) (offset_of b) ≤ max (offset_of c) (offset_of d)
overlap_from_meet a b c d meet =
    let low = between_low a b meet.at meet.first in
    let high = between_high c d meet.at meet.second in
    omega (arith, low, high)

-- the ranges meet at the start of the one that starts later
meet_at : (a b c d v : ℤ) → IsGridNumber a → IsGridNumber b → IsGridNumber c → IsGridNumber d → IsGridNumber v
    → min (offset_of a) (offset_of b) ≤ offset_of v → offset_of v ≤ max (offset_of a) (offset_of b)
    → min (offset_of c) (offset_of d) ≤ offset_of v → offset_of v ≤ max (offset_of c) (offset_of d) → RangesMeet a b c d
meet_at a b c d v ga gb gc gd gv first_low first_high second_low second_high = record {
  at = v;
  first = between_from_offsets a b v ga gb gv first_low first_high;
  second = between_from_offsets c d v gc gd gv second_low second_high;
}

pub meet_from_overlap : (a b c d : ℤ) → IsGridNumber a → IsGridNumber b → IsGridNumber c → IsGridNumber d
    → min (offset_of a) (offset_of b) ≤ max (offset_of c) (offset_of d) → min (offset_of c) (offset_of d) ≤ max (offset_of a) (offset_of b)
    → RangesMeet a b c d
meet_from_overlap a b c d ga gb gc gd h k = elim (cases_lt (min (offset_of a) (offset_of b)) (min (offset_of c) (offset_of d))) [
  | inl later ↦ elim (cases_lt (offset_of c) (offset_of d)) [
    | inl up ↦ meet_at a b c d c ga gb gc gd gc (omega (arith, later, up, h, k)) (omega (arith, later, up, h, k))
        (omega (arith, later, up, h, k)) (omega (arith, later, up, h, k))
    | inr down ↦ meet_at a b c d d ga gb gc gd gd (omega (arith, later, down, h, k)) (omega (arith, later, down, h, k))
        (omega (arith, later, down, h, k)) (omega (arith, later, down, h, k))
  ]
  | inr sooner ↦ elim (cases_lt (offset_of a) (offset_of b)) [
    | inl up ↦ meet_at a b c d a ga gb gc gd ga (omega (arith, sooner, up, h, k)) (omega (arith, sooner, up, h, k))
        (omega (arith, sooner, up, h, k)) (omega (arith, sooner, up, h, k))
    | inr down ↦ meet_at a b c d b ga gb gc gd gb (omega (arith, sooner, down, h, k)) (omega (arith, sooner, down, h, k))
        (omega (arith, sooner, down, h, k)) (omega (arith, sooner, down, h, k))
  ]
]

-- a range and a number
pub meet_from_between : (a b v : ℤ) → IsBetween a b v → RangesMeet a b v v
meet_from_between a b v between = record { at = v; first = between; second = Rising (omega (arith, ints)) (omega (arith, ints)) }

same_from_between : (v w : ℤ) → IsBetween v v w → w ≡ v
same_from_between v w (Rising low high) = omega (arith, ints)
same_from_between v w (Falling low high) = omega (arith, ints)

pub between_from_meet : (a b v : ℤ) → RangesMeet a b v v → IsBetween a b v
between_from_meet a b v meet = subst (IsBetween a b) (same_from_between v meet.at meet.second) meet.first
