-- Segments whose ranges on one axis are apart have no common point.
use Rattle.std.proofs.Common.{◌≡◌, ◌↔◌, inl, inr, [], ◌∷◌, ℤ, pos, ◌+ℤ◌, ◌-ℤ◌, ◌*ℤ◌, ◌≤ℤ◌, ◌<ℤ◌, refl, sym, arith}
use Rattle.std.specs.Int.{int_max, int_min}
use Rattle.std.proofs.lemmas.Int.{int_max_is, int_min_is}
use Rattle.grid_exact.specs.Geometry.{Place, CommonPoint}
use Rattle.grid_exact.proofs.WholeLaws.{sums}
use Rattle.grid_exact.proofs.Signs.{at_most_or_above, times_nonnegative}
use Rattle.grid_exact.proofs.Polynomial.{Whole, ◌⊕◌, ◌⊖◌, ◌⊗◌, ◌≈◌, Variable, by_identity}
use Rattle.segment_tests.specs.Meeting.{AreBelow, AreRangesApart, AreBoxesApart}

-- ---- the test

pub below_by_max : (a b c d : ℤ) → (int_max a b <ℤ int_min c d) ↔ AreBelow a b c d
below_by_max a b c d =
    let p = int_max_is a b in
    let q = int_min_is c d in (
      λ h. record {
        a_below_c = omega (arith, sums, p, q);
        a_below_d = omega (arith, sums, p, q);
        b_below_c =
            omega (arith, sums, p, q);
        b_below_d = omega (arith, sums, p, q);
      },
      λ h. let ac = h.a_below_c in let ad = h.a_below_d in let bc =
          h.b_below_c in let bd = h.b_below_d in omega (arith, sums, p, q),
    )

-- ---- the law

-- on one axis: no part of the way is past a number that is past neither end ..
at_most : (n s a b m : ℤ) → pos 0 ≤ℤ s → s ≤ℤ n → a ≤ℤ m → b ≤ℤ m → (n *ℤ a +ℤ s *ℤ (b -ℤ a)) ≤ℤ (n *ℤ m)
at_most n s a b m low high am bm =
    let x = Variable in
    let e = by_identity (n ∷ s ∷ a ∷ b ∷ m ∷ []) (x 0 ⊗ x 4 ⊖ (x 0 ⊗ x 2 ⊕ x 1 ⊗ (x 3 ⊖ x 2)) ≈ (x 0 ⊖ x 1) ⊗ (x 4 ⊖ x 2) ⊕ x 1
    ⊗ (x 4 ⊖ x 3)) refl in
    let p : pos 0 ≤ℤ ((n -ℤ s) *ℤ (m -ℤ a)) = times_nonnegative (n -ℤ s) (m -ℤ a) (omega (arith, sums)) (omega (arith, sums)) in
    let q : pos 0 ≤ℤ (s *ℤ (m -ℤ b)) = times_nonnegative s (m -ℤ b) low (omega (arith, sums)) in
    omega (arith, sums, e)

-- .. nor before one that is before neither
at_least : (n s a b m : ℤ) → pos 0 ≤ℤ s → s ≤ℤ n → m ≤ℤ a → m ≤ℤ b → (n *ℤ m) ≤ℤ (n *ℤ a +ℤ s *ℤ (b -ℤ a))
at_least n s a b m low high ma mb =
    let x = Variable in
    let e = by_identity (n ∷ s ∷ a ∷ b ∷ m ∷ []) ((x 0 ⊗ x 2 ⊕ x 1 ⊗ (x 3 ⊖ x 2)) ⊖ x 0 ⊗ x 4 ≈ (x 0 ⊖ x 1) ⊗ (x 2 ⊖ x 4) ⊕ x 1
    ⊗ (x 3 ⊖ x 4)) refl in
    let p : pos 0 ≤ℤ ((n -ℤ s) *ℤ (a -ℤ m)) = times_nonnegative (n -ℤ s) (a -ℤ m) (omega (arith, sums)) (omega (arith, sums)) in
    let q : pos 0 ≤ℤ (s *ℤ (b -ℤ m)) = times_nonnegative s (b -ℤ m) low (omega (arith, sums)) in
    omega (arith, sums, e)

-- the places s / n of the way from a to b, below, and t / n of the way from c to d, above, are two
below_apart : (n s t a b c d : ℤ) → pos 1 ≤ℤ n → pos 0 ≤ℤ s → s ≤ℤ n → pos 0 ≤ℤ t → t ≤ℤ n → a <ℤ c → a <ℤ d → b <ℤ c → b <ℤ d
    → ¬ (n *ℤ a +ℤ s *ℤ (b -ℤ a) ≡ n *ℤ c +ℤ t *ℤ (d -ℤ c))
below_apart n s t a b c d one sl sh tl th ac ad bc bd same =
    elim (at_most_or_above a b) [
      | inl h ↦ between b (omega (arith, sums)) (omega (arith, sums)) bc bd
      | inr h ↦ between a (omega (arith, sums)) (omega (arith, sums)) ac ad
    ]
  where
    between : (m : ℤ) → a ≤ℤ m → b ≤ℤ m → m <ℤ c → m <ℤ d → ⊥
    between m am bm mc md =
        let x = Variable in
        let p = at_most n s a b m sl sh am bm in
        let q = at_least n t c d (m +ℤ pos 1) tl th (omega (arith, sums)) (omega (arith, sums)) in
        let e = by_identity (n ∷ m ∷ []) (x 0 ⊗ (x 1 ⊕ Whole (pos 1)) ≈ x 0 ⊗ x 1 ⊕ x 0) refl in
        omega (arith, sums, e)

axis_apart : (n s t a b c d : ℤ) → pos 1 ≤ℤ n → pos 0 ≤ℤ s → s ≤ℤ n → pos 0 ≤ℤ t → t ≤ℤ n → AreRangesApart a b c d
    → ¬ (n *ℤ a +ℤ s *ℤ (b -ℤ a) ≡ n *ℤ c +ℤ t *ℤ (d -ℤ c))
axis_apart n s t a b c d one sl sh tl th (inl h) same = below_apart n s t a b c d one sl sh tl th h.a_below_c h.a_below_d h.b_below_c
    h.b_below_d same
axis_apart n s t a b c d one sl sh tl th (inr h) same = below_apart n t s c d a b one tl th sl sh h.a_below_c h.a_below_d h.b_below_c
    h.b_below_d (sym same)

x_ranges_apart : (a b c d : Place) → AreRangesApart a.x b.x c.x d.x → ¬ (CommonPoint a b c d)
x_ranges_apart a b c d apart h = axis_apart h.denominator h.first h.second a.x b.x c.x d.x h.whole h.first_low h.first_high h.second_low
    h.second_high apart h.across

y_ranges_apart : (a b c d : Place) → AreRangesApart a.y b.y c.y d.y → ¬ (CommonPoint a b c d)
y_ranges_apart a b c d apart h = axis_apart h.denominator h.first h.second a.y b.y c.y d.y h.whole h.first_low h.first_high h.second_low
    h.second_high apart h.up

pub boxes_apart : (a b c d : Place) → AreBoxesApart a b c d → ¬ (CommonPoint a b c d)
boxes_apart a b c d (inl apart) = y_ranges_apart a b c d apart
boxes_apart a b c d (inr apart) = x_ranges_apart a b c d apart
