-- A property of the places of two lists between two numbers: one place more, two stretches one after the other.
use Rattle.std.proofs.Common.{◌≡◌, ◌⊎◌, inl, inr, ◌↔◌, ℕ, ◌+◌, ◌<◌, ◌≤◌, List, Option, Some, None, IfSome, IsNone, ℤ, pos, ◌<ℤ◌, subst}
use Rattle.std.proofs.Common.{arith}
use Rattle.grid_exact.specs.Geometry.{Place, area_of}
use Rattle.grid_exact.proofs.WholeLaws.{sums}
use Rattle.grid_exact.proofs.Areas.{area_turned}
use Rattle.lane_kernels.specs.Places.{place_at, EachBetween, EachPlace, IsFirstOff}

at_or_below : (k j : ℕ) → j < k + 1 → (j < k) ⊎ (k ≡ j)
at_or_below k j h = grind arith

pub each_more : (from k : ℕ) (P : Place → Type 0) (xs ys : List ℤ) → EachBetween from k P xs ys → P (place_at xs ys k)
    → EachBetween from (k + 1) P xs ys
each_more from k P xs ys h here j low high = elim (at_or_below k j high) [
  | inl below ↦ h j low below
  | inr same ↦ subst (λ (i : ℕ). P (place_at xs ys i)) same here
]

below_or_from : (k j : ℕ) → (j < k) ⊎ (k ≤ j)
below_or_from k j = grind arith

pub each_joined : (from mid to : ℕ) (P : Place → Type 0) (xs ys : List ℤ) → EachBetween from mid P xs ys → EachBetween mid to P xs ys
    → EachBetween from to P xs ys
each_joined from mid to P xs ys h k j low high = elim (below_or_from mid j) [ inl below ↦ h j low below | inr up ↦ k j up high ]

-- a first place without the property, where each place before has it
pub first_from : (mid to : ℕ) (P : Place → Type 0) (xs ys : List ℤ) (found : Option ℕ) → EachBetween 0 mid P xs ys
    → IfSome found (IsFirstOff mid to P xs ys) → IfSome found (IsFirstOff 0 to P xs ys)
first_from mid to P xs ys (Some k) h first = let low = first.low in
    record { low = omega arith; high = first.high; off = first.off; before = each_joined 0 mid k P xs ys h first.before }
first_from mid to P xs ys None h first = first

-- ---- to the right of the way is to the left of the way back

back : (a b p : Place) → (pos 0 <ℤ area_of b a p) ↔ (area_of a b p <ℤ pos 0)
back a b p = let turn = area_turned p a b in (λ h. omega (arith, sums), λ h. omega (arith, sums))

pub none_on_right : (a b : Place) (xs ys : List ℤ) (found : Option ℕ) → (IsNone found ↔ EachPlace (λ p. pos 0 <ℤ area_of b a p) xs ys)
    → IsNone found ↔ EachPlace (λ p. area_of a b p <ℤ pos 0) xs ys
none_on_right a b xs ys found h = (
  λ n k low high. (back a b (place_at xs ys k)).0 (h.0 n k low high),
  λ g. h.1 (λ k low high. (back a b (place_at xs ys k)).1 (g k low high)),
)

pub first_on_right : (a b : Place) (xs ys : List ℤ) (to : ℕ) (found : Option ℕ)
    → IfSome found (IsFirstOff 0 to (λ p. pos 0 <ℤ area_of b a p) xs ys)
    → IfSome found (IsFirstOff 0 to (λ p. area_of a b p <ℤ pos 0) xs ys)
first_on_right a b xs ys to (Some k) h =
    record {
      low = h.low;
      high = h.high;
      off = λ right. h.off ((back a b (place_at xs ys k)).1 right);
      before = λ j low high. (back a b (place_at xs ys j)).0 (h.before j low high);
    }
first_on_right a b xs ys to None h = h
