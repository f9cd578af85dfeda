-- Segments with no common point, or with just one, by the signs of areas.
use Rattle.std.proofs.Common.{◌≡◌, inl, inr, [], ◌∷◌, ℤ, pos, negsuc, ◌-ℤ◌, ◌*ℤ◌, ◌≤ℤ◌, ◌<ℤ◌, refl, arith}
use Rattle.grid_exact.specs.Geometry.{Place, area_of, CommonPoint}
use Rattle.grid_exact.specs.Spans.{SameSign}
use Rattle.grid_exact.specs.Spans.SameSign.{BothAbove, BothBelow}
use Rattle.grid_exact.proofs.WholeLaws.{sums}
use Rattle.grid_exact.proofs.Signs.{Negative, Zero, Positive, sign_of, at_most_or_above, times_nonnegative, times_positive, times_negative}
use Rattle.grid_exact.proofs.Signs.{nonnegative_times_nonpositive, zero_from_times}
use Rattle.grid_exact.proofs.Polynomial.{Whole, ◌⊖◌, ◌⊗◌, ◌≈◌, ◌times◌, Variable, by_identity, by_multiples}
use Rattle.grid_exact.proofs.Spots.{spot, numbers_of, area_in, turn_in}
use Rattle.grid_exact.proofs.Commons.{rest_low, common_swapped}
use Rattle.grid_exact.proofs.Areas.{turn_of, area_abc, area_abd, area_cda, areas_differ, common_right, common_left}
use Rattle.segment_tests.specs.Meeting.{MeetAtPoint}

-- ---- one side

-- x and y are n times two areas of one sign, s and t parts of n
no_one_side : (n u v x y s t k : ℤ) → pos 1 ≤ℤ n → pos 0 ≤ℤ s → pos 0 ≤ℤ t → x ≡ n *ℤ u → y ≡ n *ℤ v → x ≡ pos 0 -ℤ s *ℤ k → y ≡ t *ℤ k
    → ¬ (SameSign u v)
no_one_side n u v x y s t k one low high xu yv e f (BothAbove p q) =
    let i : pos 0 <ℤ (n *ℤ u) = times_positive n u (omega (arith, sums)) p in
    let j : pos 0 <ℤ (n *ℤ v) = times_positive n v (omega (arith, sums)) q in
    elim (at_most_or_above (pos 0) k) [
      | inl h ↦ let r : pos 0 ≤ℤ (s *ℤ k) = times_nonnegative s k low h in omega (arith, sums)
      | inr h ↦ let r : (t *ℤ k) ≤ℤ pos 0 = nonnegative_times_nonpositive t k high (omega (arith, sums)) in omega (arith, sums)
    ]
no_one_side n u v x y s t k one low high xu yv e f (BothBelow p q) =
    let i : (n *ℤ u) <ℤ pos 0 = times_negative n u (omega (arith, sums)) p in
    let j : (n *ℤ v) <ℤ pos 0 = times_negative n v (omega (arith, sums)) q in
    elim (at_most_or_above (pos 0) k) [
      | inl h ↦ let r : pos 0 ≤ℤ (t *ℤ k) = times_nonnegative t k high h in omega (arith, sums)
      | inr h ↦ let r : (s *ℤ k) ≤ℤ pos 0 = nonnegative_times_nonpositive s k low (omega (arith, sums)) in omega (arith, sums)
    ]

pub one_side_apart : (a b c d : Place) → SameSign (area_of a b c) (area_of a b d) → ¬ (CommonPoint a b c d)
one_side_apart a b c d side h =
    no_one_side h.denominator (area_of a b c) (area_of a b d) (h.denominator *ℤ area_of a b c) (h.denominator *ℤ area_of a b d) h.second
    (h.denominator -ℤ h.second) (turn_of a b c d) h.whole h.second_low (rest_low h.denominator h.second h.second_high) refl refl
    (area_abc a b c d h) (area_abd a b c d h) side

pub other_side_apart : (a b c d : Place) → SameSign (area_of c d a) (area_of c d b) → ¬ (CommonPoint a b c d)
other_side_apart a b c d side h = one_side_apart c d a b side (common_swapped c d a b h)

-- ---- one point

turn_is : (a b c d : Place) → turn_of a b c d ≡ area_of a b d -ℤ area_of a b c
turn_is a b c d =
    let p = spot 0 in let q = spot 1 in let r = spot 2 in let o = spot 3 in
    by_identity (numbers_of (a ∷ b ∷ c ∷ d ∷ []) []) (turn_in p q r o ≈ area_in p q o ⊖ area_in p q r) refl

zero_factor : (x k : ℤ) → ¬ (k ≡ pos 0) → k *ℤ x ≡ pos 0 → x ≡ pos 0
zero_factor x k other e =
    elim (sign_of k) [
      | Negative h ↦ zero_from_times (pos 0 -ℤ k) x (omega (arith, sums))
          (by_multiples (x ∷ k ∷ []) ((Whole (pos 0) ⊖ Variable 1) ⊗ Variable 0 ≈ Whole (pos 0))
          ((Whole (negsuc 0) times (Variable 1 ⊗ Variable 0 ≈ Whole (pos 0))) ∷ []) (e, tt) refl)
      | Zero h ↦ absurd (other h)
      | Positive h ↦ zero_from_times k x h e
    ]

-- two fractions s / n and t / m of which each, times k, is one number
same_fraction : (n s m t z k : ℤ) → ¬ (k ≡ pos 0) → n *ℤ z ≡ s *ℤ k → m *ℤ z ≡ t *ℤ k → s *ℤ m ≡ t *ℤ n
same_fraction n s m t z k other e f =
    let x = Variable in
    let gap : k *ℤ (s *ℤ m -ℤ t *ℤ n) ≡ pos 0 =
    by_multiples (n ∷ s ∷ m ∷ t ∷ z ∷ k ∷ []) (x 5 ⊗ (x 1 ⊗ x 2 ⊖ x 3 ⊗ x 0) ≈ Whole (pos 0))
    (((Whole (pos 0) ⊖ x 2) times (x 0 ⊗ x 4 ≈ x 1 ⊗ x 5)) ∷ (x 0 times (x 2 ⊗ x 4 ≈ x 3 ⊗ x 5)) ∷ []) (e, (f, tt)) refl in
    let zero = zero_factor (s *ℤ m -ℤ t *ℤ n) k other gap in
    omega (arith, sums, zero)

minus_times : (n z s k : ℤ) → n *ℤ z ≡ pos 0 -ℤ s *ℤ k → n *ℤ (pos 0 -ℤ z) ≡ s *ℤ k
minus_times n z s k e = by_multiples (n ∷ z ∷ s ∷ k ∷ []) (Variable 0 ⊗ (Whole (pos 0) ⊖ Variable 1) ≈ Variable 2 ⊗ Variable 3)
    ((Whole (negsuc 0) times (Variable 0 ⊗ Variable 1 ≈ Whole (pos 0) ⊖ Variable 2 ⊗ Variable 3)) ∷ []) (e, tt) refl

at_point : (a b c d : Place) → ¬ (turn_of a b c d ≡ pos 0) → CommonPoint a b c d → MeetAtPoint a b c d
at_point a b c d across h =
    record {
      common = h;
      first = λ h k. same_fraction h.denominator h.first k.denominator k.first (area_of c d a) (turn_of a b c d) across (area_cda a b c d h)
          (area_cda a b c d k);
      second = λ h k. same_fraction h.denominator h.second k.denominator k.second (pos 0 -ℤ area_of a b c) (turn_of a b c d) across
          (minus_times h.denominator (area_of a b c) h.second (turn_of a b c d) (area_abc a b c d h))
          (minus_times k.denominator (area_of a b c) k.second (turn_of a b c d) (area_abc a b c d k));
    }

-- of two numbers that have not one sign, the lesser is not positive and the greater not negative
lesser : (y z : ℤ) → ¬ (SameSign y z) → y <ℤ z → y ≤ℤ pos 0
lesser y z other h = elim (at_most_or_above y (pos 0)) [ inl k ↦ k | inr k ↦ absurd (other (BothAbove k (omega (arith, sums)))) ]

greater : (y z : ℤ) → ¬ (SameSign y z) → y <ℤ z → pos 0 ≤ℤ z
greater y z other h = elim (at_most_or_above (pos 0) z) [ inl k ↦ k | inr k ↦ absurd (other (BothBelow (omega (arith, sums)) k)) ]

sign_exchanged : (y z : ℤ) → SameSign y z → SameSign z y
sign_exchanged y z (BothAbove h k) = BothAbove k h
sign_exchanged y z (BothBelow h k) = BothBelow k h

pub meet_at_point : (a b c d : Place) → ¬ (SameSign (area_of a b c) (area_of a b d)) → ¬ (SameSign (area_of c d a) (area_of c d b))
    → ¬ (area_of a b c ≡ area_of a b d) → MeetAtPoint a b c d
meet_at_point a b c d first second across =
    let turn = turn_is a b c d in
    let same = areas_differ a b c d in
    at_point a b c d (λ e. across (omega (arith, sums, turn)))
    (elim (sign_of (area_of a b d -ℤ area_of a b c)) [
      | Negative h ↦
          let swapped : ¬ (SameSign (area_of a b d) (area_of a b c)) = λ s. first (sign_exchanged (area_of a b d) (area_of a b c) s) in
          common_left a b c d
          (greater (area_of a b d) (area_of a b c) swapped (omega (arith, sums)))
          (lesser (area_of a b d) (area_of a b c) swapped (omega (arith, sums)))
          (lesser (area_of c d a) (area_of c d b) second (omega (arith, sums, same)))
          (greater (area_of c d a) (area_of c d b) second (omega (arith, sums, same)))
          (omega (arith, sums))
      | Zero h ↦ absurd (across (omega (arith, sums)))
      | Positive h ↦
          let swapped : ¬ (SameSign (area_of c d b) (area_of c d a)) = λ s. second (sign_exchanged (area_of c d b) (area_of c d a) s) in
          common_right a b c d
          (lesser (area_of a b c) (area_of a b d) first (omega (arith, sums)))
          (greater (area_of a b c) (area_of a b d) first (omega (arith, sums)))
          (greater (area_of c d b) (area_of c d a) swapped (omega (arith, sums, same)))
          (lesser (area_of c d b) (area_of c d a) swapped (omega (arith, sums, same)))
          (omega (arith, sums))
    ])

-- two areas that are equal and have not one sign
pub both_none : (y z : ℤ) → ¬ (SameSign y z) → y ≡ z → y ≡ pos 0
both_none y z other e = elim (sign_of y) [
  | Negative h ↦ absurd (other (BothBelow h (omega (arith, sums))))
  | Zero h ↦ h
  | Positive h ↦ absurd (other (BothAbove h (omega (arith, sums))))
]
