-- Two edges that run in one direction have no common point exactly where one is above the other at both ends of what they share.
use Rattle.std.proofs.Common.{◌≡◌, inl, inr, Bool, true, false, [], ◌∷◌, ℤ, pos, negsuc, ◌-ℤ◌, ◌*ℤ◌, ◌≤ℤ◌, ◌<ℤ◌, refl, ap, arith}
use Rattle.grid_exact.specs.Geometry.{Place, area_of, CommonPoint}
use lib.IntN.{*ℤ_comm}
use Rattle.grid_exact.proofs.WholeLaws.{sums}
use Rattle.grid_exact.proofs.Signs.{Negative, Zero, Positive, sign_of, at_most_or_above, times_nonnegative, times_positive, times_negative}
use Rattle.grid_exact.proofs.Signs.{nonnegative_times_nonpositive, nonnegative_from_times, nonpositive_from_times}
use Rattle.grid_exact.proofs.Polynomial.{Whole, ◌⊖◌, ◌⊗◌, ◌≈◌, ◌times◌, Variable, by_identity, by_multiples}
use Rattle.grid_exact.proofs.Spots.{spot, numbers_of, area_in}
use Rattle.grid_exact.specs.Crossing.{is_before}
use Rattle.grid_exact.specs.Spans.{IsUpTo, start_gap, end_gap, SameSign}
use Rattle.grid_exact.specs.Spans.SameSign.{BothAbove, BothBelow}
use Rattle.grid_exact.proofs.Commons.{common_at_start, common_at_end, common_swapped}
use Rattle.grid_exact.proofs.Areas.{turn_of, area_abc, area_abd, area_cda, area_cdb, flat_where, common_right, common_left}
use Rattle.grid_exact.proofs.Orders.{up_to_true, up_to_false, on_by_order, no_times}

-- ---- the gaps by cases

pub start_gap-yes : (a b c d : Place) → is_before a c ≡ true → start_gap a b c d ≡ area_of a b c
start_gap-yes a b c d e = ap (λ (t : Bool). elim t [ true ↦ area_of a b c | false ↦ pos 0 -ℤ area_of c d a ]) e

pub start_gap-no : (a b c d : Place) → is_before a c ≡ false → start_gap a b c d ≡ pos 0 -ℤ area_of c d a
start_gap-no a b c d e = ap (λ (t : Bool). elim t [ true ↦ area_of a b c | false ↦ pos 0 -ℤ area_of c d a ]) e

pub end_gap-yes : (a b c d : Place) → is_before d b ≡ true → end_gap a b c d ≡ area_of a b d
end_gap-yes a b c d e = ap (λ (t : Bool). elim t [ true ↦ area_of a b d | false ↦ pos 0 -ℤ area_of c d b ]) e

pub end_gap-no : (a b c d : Place) → is_before d b ≡ false → end_gap a b c d ≡ pos 0 -ℤ area_of c d b
end_gap-no a b c d e = ap (λ (t : Bool). elim t [ true ↦ area_of a b d | false ↦ pos 0 -ℤ area_of c d b ]) e

-- ---- a common point leaves no strict order of the edges

start_times : (a b c d : Place) (h : CommonPoint a b c d) → (t : ℤ) × (pos 0 ≤ℤ t)
    × (h.denominator *ℤ start_gap a b c d ≡ pos 0 -ℤ t *ℤ turn_of a b c d)
start_times a b c d h =
    elim (is_before a c) as (λ s. (t : ℤ) × (pos 0 ≤ℤ t)
    × (h.denominator *ℤ (elim s [ true ↦ area_of a b c | false ↦ pos 0 -ℤ area_of c d a ]) ≡ pos 0 -ℤ t *ℤ turn_of a b c d)) [
      | true ↦ (h.second, h.second_low, area_abc a b c d h)
      | false ↦ (h.first, h.first_low, minus h.denominator (area_of c d a) h.first (turn_of a b c d) (area_cda a b c d h))
    ]
  where
    minus : (n z s k : ℤ) → n *ℤ z ≡ s *ℤ k → n *ℤ (pos 0 -ℤ z) ≡ pos 0 -ℤ s *ℤ k
    minus n z s k e = by_multiples (n ∷ z ∷ s ∷ k ∷ []) (Variable 0 ⊗ (Whole (pos 0) ⊖ Variable 1) ≈ Whole (pos 0) ⊖ Variable 2 ⊗ Variable
        3) ((Whole (negsuc 0) times (Variable 0 ⊗ Variable 1 ≈ Variable 2 ⊗ Variable 3)) ∷ []) (e, tt) refl

end_times : (a b c d : Place) (h : CommonPoint a b c d) → (t : ℤ) × (pos 0 ≤ℤ t) × (h.denominator *ℤ end_gap a b c d ≡ t *ℤ turn_of a b c d)
end_times a b c d h =
    elim (is_before d b) as (λ s. (t : ℤ) × (pos 0 ≤ℤ t)
    × (h.denominator *ℤ (elim s [ true ↦ area_of a b d | false ↦ pos 0 -ℤ area_of c d b ]) ≡ t *ℤ turn_of a b c d)) [
      | true ↦ (h.denominator -ℤ h.second, rest h.denominator h.second h.second_high, area_abd a b c d h)
      | false ↦ (
        h.denominator -ℤ h.first,
        rest h.denominator h.first h.first_high,
        minus h.denominator (area_of c d b)
            (h.denominator -ℤ h.first) (turn_of a b c d) (area_cdb a b c d h),
      )
    ]
  where
    rest : (n s : ℤ) → s ≤ℤ n → pos 0 ≤ℤ (n -ℤ s)
    rest n s e = omega (arith, sums)

    minus : (n z s k : ℤ) → n *ℤ z ≡ pos 0 -ℤ s *ℤ k → n *ℤ (pos 0 -ℤ z) ≡ s *ℤ k
    minus n z s k e = by_multiples (n ∷ z ∷ s ∷ k ∷ []) (Variable 0 ⊗ (Whole (pos 0) ⊖ Variable 1) ≈ Variable 2 ⊗ Variable 3)
        ((Whole (negsuc 0) times (Variable 0 ⊗ Variable 1 ≈ Whole (pos 0) ⊖ Variable 2 ⊗ Variable 3)) ∷ []) (e, tt) refl

-- Where a point is common, the second edge is not above the first at both ends of what they share ..
pub not_above : (a b c d : Place) → CommonPoint a b c d → pos 0 <ℤ start_gap a b c d → pos 0 <ℤ end_gap a b c d → ⊥
not_above a b c d h low high =
    let n : pos 0 <ℤ h.denominator = positive h.denominator h.whole in
    let s = start_times a b c d h in
    let e = end_times a b c d h in
    let p : pos 0 <ℤ (h.denominator *ℤ start_gap a b c d) = times_positive h.denominator (start_gap a b c d) n low in
    let q : pos 0 <ℤ (h.denominator *ℤ end_gap a b c d) = times_positive h.denominator (end_gap a b c d) n high in
    both s.0 e.0 (turn_of a b c d) (h.denominator *ℤ start_gap a b c d) (h.denominator *ℤ end_gap a b c d) s.1 e.1 s.2 e.2 p q
  where
    positive : (n : ℤ) → pos 1 ≤ℤ n → pos 0 <ℤ n
    positive n h = omega (arith, sums)

    both : (s t k x y : ℤ) → pos 0 ≤ℤ s → pos 0 ≤ℤ t → x ≡ pos 0 -ℤ s *ℤ k → y ≡ t *ℤ k → pos 0 <ℤ x → pos 0 <ℤ y → ⊥
    both s t k x y p q e f u v =
        elim (at_most_or_above (pos 0) k) [
          | inl h ↦ let r : pos 0 ≤ℤ (s *ℤ k) = times_nonnegative s k p h in omega (arith, sums)
          | inr h ↦ let r : (t *ℤ k) ≤ℤ pos 0 = nonnegative_times_nonpositive t k q (omega (arith, sums)) in omega (arith, sums)
        ]

-- .. nor below it at both
pub not_below : (a b c d : Place) → CommonPoint a b c d → start_gap a b c d <ℤ pos 0 → end_gap a b c d <ℤ pos 0 → ⊥
not_below a b c d h low high =
    let n : pos 0 <ℤ h.denominator = positive h.denominator h.whole in
    let s = start_times a b c d h in
    let e = end_times a b c d h in
    let p : (h.denominator *ℤ start_gap a b c d) <ℤ pos 0 = times_negative h.denominator (start_gap a b c d) n low in
    let q : (h.denominator *ℤ end_gap a b c d) <ℤ pos 0 = times_negative h.denominator (end_gap a b c d) n high in
    both s.0 e.0 (turn_of a b c d) (h.denominator *ℤ start_gap a b c d) (h.denominator *ℤ end_gap a b c d) s.1 e.1 s.2 e.2 p q
  where
    positive : (n : ℤ) → pos 1 ≤ℤ n → pos 0 <ℤ n
    positive n h = omega (arith, sums)

    both : (s t k x y : ℤ) → pos 0 ≤ℤ s → pos 0 ≤ℤ t → x ≡ pos 0 -ℤ s *ℤ k → y ≡ t *ℤ k → x <ℤ pos 0 → y <ℤ pos 0 → ⊥
    both s t k x y p q e f u v =
        elim (at_most_or_above (pos 0) k) [
          | inl h ↦ let r : pos 0 ≤ℤ (t *ℤ k) = times_nonnegative t k q h in omega (arith, sums)
          | inr h ↦ let r : (s *ℤ k) ≤ℤ pos 0 = nonnegative_times_nonpositive s k p (omega (arith, sums)) in omega (arith, sums)
        ]

-- Two edges with the same strict order at both ends of what they share have no common point.
pub ordered_apart : (a b c d : Place) → SameSign (start_gap a b c d) (end_gap a b c d) → ¬ (CommonPoint a b c d)
ordered_apart a b c d (BothAbove low high) h = not_above a b c d h low high
ordered_apart a b c d (BothBelow low high) h = not_below a b c d h low high

-- ---- no common point leaves a strict order

-- both ends of what is shared are of the second edge
second_rises : (a b c d : Place) → a.x ≤ℤ c.x → c.x ≤ℤ d.x → d.x ≤ℤ b.x → area_of a b c <ℤ pos 0 → pos 0 <ℤ area_of a b d
    → CommonPoint a b c d
second_rises a b c d l m r low high =
    let p = spot 0 in let q = spot 1 in let u = spot 2 in let o = spot 3 in
    let xs = numbers_of (a ∷ b ∷ c ∷ d ∷ []) [] in
    let e = by_identity xs ((q.x ⊖ p.x) ⊗ area_in u o p ≈ area_in p q o ⊗ (u.x ⊖ p.x) ⊖ area_in p q u ⊗ (o.x ⊖ p.x)) refl in
    let f = by_identity xs ((q.x ⊖ p.x) ⊗ area_in u o q ≈ area_in p q u ⊗ (q.x ⊖ o.x) ⊖ area_in p q o ⊗ (q.x ⊖ u.x)) refl in
    elim (sign_of (b.x -ℤ a.x)) [
      | Negative h ↦ absurd (omega (arith, sums))
      | Zero h ↦ let z = flat_where a b c h (omega (arith, sums)) in absurd (omega (arith, sums, z))
      | Positive h ↦
          let s : pos 0 ≤ℤ (area_of a b d *ℤ (c.x -ℤ a.x)) = times_nonnegative (area_of a b d) (c.x -ℤ a.x) (omega (arith, sums))
          (omega (arith, sums)) in
          let t : ((d.x -ℤ a.x) *ℤ area_of a b c) ≤ℤ pos 0 = nonnegative_times_nonpositive (d.x -ℤ a.x) (area_of a b c)
          (omega (arith, sums)) (omega (arith, sums)) in
          let v : ((b.x -ℤ d.x) *ℤ area_of a b c) ≤ℤ pos 0 = nonnegative_times_nonpositive (b.x -ℤ d.x) (area_of a b c)
          (omega (arith, sums)) (omega (arith, sums)) in
          let w : pos 0 ≤ℤ (area_of a b d *ℤ (b.x -ℤ c.x)) = times_nonnegative (area_of a b d) (b.x -ℤ c.x) (omega (arith, sums))
          (omega (arith, sums)) in
          let cda : pos 0 ≤ℤ area_of c d a = nonnegative_from_times (b.x -ℤ a.x) (area_of c d a) h
          (omega (arith, sums, e, *ℤ_comm (d.x -ℤ a.x) (area_of a b c))) in
          let cdb : area_of c d b ≤ℤ pos 0 = nonpositive_from_times (b.x -ℤ a.x) (area_of c d b) h
          (omega (arith, sums, f, *ℤ_comm (b.x -ℤ d.x) (area_of a b c))) in
          common_right a b c d (omega (arith, sums)) (omega (arith, sums)) cda cdb (omega (arith, sums))
    ]

second_falls : (a b c d : Place) → a.x ≤ℤ c.x → c.x ≤ℤ d.x → d.x ≤ℤ b.x → pos 0 <ℤ area_of a b c → area_of a b d <ℤ pos 0
    → CommonPoint a b c d
second_falls a b c d l m r low high =
    let p = spot 0 in let q = spot 1 in let u = spot 2 in let o = spot 3 in
    let xs = numbers_of (a ∷ b ∷ c ∷ d ∷ []) [] in
    let e = by_identity xs ((q.x ⊖ p.x) ⊗ area_in u o p ≈ area_in p q o ⊗ (u.x ⊖ p.x) ⊖ area_in p q u ⊗ (o.x ⊖ p.x)) refl in
    let f = by_identity xs ((q.x ⊖ p.x) ⊗ area_in u o q ≈ area_in p q u ⊗ (q.x ⊖ o.x) ⊖ area_in p q o ⊗ (q.x ⊖ u.x)) refl in
    elim (sign_of (b.x -ℤ a.x)) [
      | Negative h ↦ absurd (omega (arith, sums))
      | Zero h ↦ let z = flat_where a b c h (omega (arith, sums)) in absurd (omega (arith, sums, z))
      | Positive h ↦
          let s : ((c.x -ℤ a.x) *ℤ area_of a b d) ≤ℤ pos 0 = nonnegative_times_nonpositive (c.x -ℤ a.x) (area_of a b d)
          (omega (arith, sums)) (omega (arith, sums)) in
          let t : pos 0 ≤ℤ (area_of a b c *ℤ (d.x -ℤ a.x)) = times_nonnegative (area_of a b c) (d.x -ℤ a.x) (omega (arith, sums))
          (omega (arith, sums)) in
          let v : pos 0 ≤ℤ (area_of a b c *ℤ (b.x -ℤ d.x)) = times_nonnegative (area_of a b c) (b.x -ℤ d.x) (omega (arith, sums))
          (omega (arith, sums)) in
          let w : ((b.x -ℤ c.x) *ℤ area_of a b d) ≤ℤ pos 0 = nonnegative_times_nonpositive (b.x -ℤ c.x) (area_of a b d)
          (omega (arith, sums)) (omega (arith, sums)) in
          let cda : area_of c d a ≤ℤ pos 0 = nonpositive_from_times (b.x -ℤ a.x) (area_of c d a) h
          (omega (arith, sums, e, *ℤ_comm (c.x -ℤ a.x) (area_of a b d))) in
          let cdb : pos 0 ≤ℤ area_of c d b = nonnegative_from_times (b.x -ℤ a.x) (area_of c d b) h
          (omega (arith, sums, f, *ℤ_comm (b.x -ℤ c.x) (area_of a b d))) in
          common_left a b c d (omega (arith, sums)) (omega (arith, sums)) cda cdb (omega (arith, sums))
    ]

-- a factor of a product that is not on the far side of 0
negative_only : (n z : ℤ) → pos 0 ≤ℤ n → z <ℤ pos 0 → pos 0 ≤ℤ (n *ℤ z) → n ≡ pos 0
negative_only n z p q r = elim (sign_of n) [
  | Negative h ↦ absurd (omega (arith, sums))
  | Zero h ↦ h
  | Positive h ↦ let t : (n *ℤ z) <ℤ pos 0 = times_negative n z h q in absurd (omega (arith, sums))
]

positive_only : (n z : ℤ) → pos 0 ≤ℤ n → pos 0 <ℤ z → (n *ℤ z) ≤ℤ pos 0 → n ≡ pos 0
positive_only n z p q r = elim (sign_of n) [
  | Negative h ↦ absurd (omega (arith, sums))
  | Zero h ↦ h
  | Positive h ↦ let t : pos 0 <ℤ (n *ℤ z) = times_positive n z h q in absurd (omega (arith, sums))
]

chained_rises : (a b c d : Place) → a.x ≤ℤ c.x → c.x ≤ℤ b.x → b.x ≤ℤ d.x → area_of a b c <ℤ pos 0 → area_of c d b <ℤ pos 0
    → CommonPoint a b c d
chained_rises a b c d l m r low high =
    let p = spot 0 in let q = spot 1 in let u = spot 2 in let o = spot 3 in
    let xs = numbers_of (a ∷ b ∷ c ∷ d ∷ []) [] in
    let e = by_identity xs ((q.x ⊖ u.x) ⊗ area_in p q o ≈ Whole (pos 0) ⊖ (q.x ⊖ p.x) ⊗ area_in u o q ⊖ (o.x ⊖ q.x) ⊗ area_in p q u) refl in
    let f = by_identity xs ((q.x ⊖ u.x) ⊗ area_in u o p ≈ Whole (pos 0) ⊖ (o.x ⊖ u.x) ⊗ area_in p q u ⊖ (u.x ⊖ p.x) ⊗ area_in u o q) refl in
    let s : ((b.x -ℤ a.x) *ℤ area_of c d b) ≤ℤ pos 0 = nonnegative_times_nonpositive (b.x -ℤ a.x) (area_of c d b) (omega (arith, sums))
    (omega (arith, sums)) in
    let t : ((d.x -ℤ b.x) *ℤ area_of a b c) ≤ℤ pos 0 = nonnegative_times_nonpositive (d.x -ℤ b.x) (area_of a b c) (omega (arith, sums))
    (omega (arith, sums)) in
    let v : ((d.x -ℤ c.x) *ℤ area_of a b c) ≤ℤ pos 0 = nonnegative_times_nonpositive (d.x -ℤ c.x) (area_of a b c) (omega (arith, sums))
    (omega (arith, sums)) in
    let w : ((c.x -ℤ a.x) *ℤ area_of c d b) ≤ℤ pos 0 = nonnegative_times_nonpositive (c.x -ℤ a.x) (area_of c d b) (omega (arith, sums))
    (omega (arith, sums)) in
    elim (sign_of (b.x -ℤ c.x)) [
      | Negative h ↦ absurd (omega (arith, sums))
      | Zero h ↦
          let z = no_times (b.x -ℤ c.x) (area_of a b d) h in
          let y : b.x -ℤ a.x ≡ pos 0 = negative_only (b.x -ℤ a.x) (area_of c d b) (omega (arith, sums)) (omega (arith, sums))
          (omega (arith, sums, e, z)) in
          let k = flat_where a b c y (omega (arith, sums)) in
          absurd (omega (arith, sums, k))
      | Positive h ↦
          let abd : pos 0 ≤ℤ area_of a b d = nonnegative_from_times (b.x -ℤ c.x) (area_of a b d) h (omega (arith, sums, e)) in
          let cda : pos 0 ≤ℤ area_of c d a = nonnegative_from_times (b.x -ℤ c.x) (area_of c d a) h (omega (arith, sums, f)) in
          common_right a b c d (omega (arith, sums)) abd cda (omega (arith, sums)) (omega (arith, sums))
    ]

chained_falls : (a b c d : Place) → a.x ≤ℤ c.x → c.x ≤ℤ b.x → b.x ≤ℤ d.x → pos 0 <ℤ area_of a b c → pos 0 <ℤ area_of c d b
    → CommonPoint a b c d
chained_falls a b c d l m r low high =
    let p = spot 0 in let q = spot 1 in let u = spot 2 in let o = spot 3 in
    let xs = numbers_of (a ∷ b ∷ c ∷ d ∷ []) [] in
    let e = by_identity xs ((q.x ⊖ u.x) ⊗ area_in p q o ≈ Whole (pos 0) ⊖ (q.x ⊖ p.x) ⊗ area_in u o q ⊖ (o.x ⊖ q.x) ⊗ area_in p q u) refl in
    let f = by_identity xs ((q.x ⊖ u.x) ⊗ area_in u o p ≈ Whole (pos 0) ⊖ (o.x ⊖ u.x) ⊗ area_in p q u ⊖ (u.x ⊖ p.x) ⊗ area_in u o q) refl in
    let s : pos 0 ≤ℤ ((b.x -ℤ a.x) *ℤ area_of c d b) = times_nonnegative (b.x -ℤ a.x) (area_of c d b) (omega (arith, sums))
    (omega (arith, sums)) in
    let t : pos 0 ≤ℤ ((d.x -ℤ b.x) *ℤ area_of a b c) = times_nonnegative (d.x -ℤ b.x) (area_of a b c) (omega (arith, sums))
    (omega (arith, sums)) in
    let v : pos 0 ≤ℤ ((d.x -ℤ c.x) *ℤ area_of a b c) = times_nonnegative (d.x -ℤ c.x) (area_of a b c) (omega (arith, sums))
    (omega (arith, sums)) in
    let w : pos 0 ≤ℤ ((c.x -ℤ a.x) *ℤ area_of c d b) = times_nonnegative (c.x -ℤ a.x) (area_of c d b) (omega (arith, sums))
    (omega (arith, sums)) in
    elim (sign_of (b.x -ℤ c.x)) [
      | Negative h ↦ absurd (omega (arith, sums))
      | Zero h ↦
          let z = no_times (b.x -ℤ c.x) (area_of a b d) h in
          let y : b.x -ℤ a.x ≡ pos 0 = positive_only (b.x -ℤ a.x) (area_of c d b) (omega (arith, sums)) (omega (arith, sums))
          (omega (arith, sums, e, z)) in
          let k = flat_where a b c y (omega (arith, sums)) in
          absurd (omega (arith, sums, k))
      | Positive h ↦
          let abd : area_of a b d ≤ℤ pos 0 = nonpositive_from_times (b.x -ℤ c.x) (area_of a b d) h (omega (arith, sums, e)) in
          let cda : area_of c d a ≤ℤ pos 0 = nonpositive_from_times (b.x -ℤ c.x) (area_of c d a) h (omega (arith, sums, f)) in
          common_left a b c d (omega (arith, sums)) abd cda (omega (arith, sums)) (omega (arith, sums))
    ]

pub minus_below : (z : ℤ) → (pos 0 -ℤ z) <ℤ pos 0 → pos 0 <ℤ z
minus_below z h = omega (arith, sums)

pub minus_above : (z : ℤ) → pos 0 <ℤ (pos 0 -ℤ z) → z <ℤ pos 0
minus_above z h = omega (arith, sums)

minus_zero : (z : ℤ) → pos 0 -ℤ z ≡ pos 0 → z ≡ pos 0
minus_zero z h = omega (arith, sums)

gaps_rise : (a b c d : Place) → IsUpTo a b → IsUpTo c d → IsUpTo c b → IsUpTo a d → start_gap a b c d <ℤ pos 0 → pos 0 <ℤ end_gap a b c d
    → CommonPoint a b c d
gaps_rise a b c d ab cd cb ad low high =
    (elim (is_before a c) as (λ s. is_before a c ≡ s → (elim s [ true ↦ area_of a b c | false ↦ pos 0 -ℤ area_of c d a ]) <ℤ pos 0
    → CommonPoint a b c d) [
      | true ↦ λ e l.
          (elim (is_before d b) as (λ t. is_before d b ≡ t → pos 0 <ℤ (elim t [ true ↦ area_of a b d | false ↦ pos 0 -ℤ area_of c d b ])
          → CommonPoint a b c d) [
            | true ↦ λ f h. second_rises a b c d (up_to_true a c e).across cd.across (up_to_true d b f).across l h
            | false ↦ λ f h. chained_rises a b c d (up_to_true a c e).across cb.across (up_to_false d b f).across l
                (minus_above (area_of c d b) h)
          ]) refl high
      | false ↦ λ e l.
          (elim (is_before d b) as (λ t. is_before d b ≡ t → pos 0 <ℤ (elim t [ true ↦ area_of a b d | false ↦ pos 0 -ℤ area_of c d b ])
          → CommonPoint a b c d) [
            | true ↦ λ f h. common_swapped a b c d (chained_falls c d a b (up_to_false a c e).across ad.across (up_to_true d b f).across
                (minus_below (area_of c d a) l) h)
            | false ↦ λ f h. common_swapped a b c d (second_falls c d a b (up_to_false a c e).across ab.across (up_to_false d b f).across
                (minus_below (area_of c d a) l) (minus_above (area_of c d b) h))
          ]) refl high
    ]) refl low

gaps_fall : (a b c d : Place) → IsUpTo a b → IsUpTo c d → IsUpTo c b → IsUpTo a d → pos 0 <ℤ start_gap a b c d → end_gap a b c d <ℤ pos 0
    → CommonPoint a b c d
gaps_fall a b c d ab cd cb ad low high =
    (elim (is_before a c) as (λ s. is_before a c ≡ s → pos 0 <ℤ (elim s [ true ↦ area_of a b c | false ↦ pos 0 -ℤ area_of c d a ])
    → CommonPoint a b c d) [
      | true ↦ λ e l.
          (elim (is_before d b) as (λ t. is_before d b ≡ t → (elim t [ true ↦ area_of a b d | false ↦ pos 0 -ℤ area_of c d b ]) <ℤ pos 0
          → CommonPoint a b c d) [
            | true ↦ λ f h. second_falls a b c d (up_to_true a c e).across cd.across (up_to_true d b f).across l h
            | false ↦ λ f h. chained_falls a b c d (up_to_true a c e).across cb.across (up_to_false d b f).across l
                (minus_below (area_of c d b) h)
          ]) refl high
      | false ↦ λ e l.
          (elim (is_before d b) as (λ t. is_before d b ≡ t → (elim t [ true ↦ area_of a b d | false ↦ pos 0 -ℤ area_of c d b ]) <ℤ pos 0
          → CommonPoint a b c d) [
            | true ↦ λ f h. common_swapped a b c d (chained_rises c d a b (up_to_false a c e).across ad.across (up_to_true d b f).across
                (minus_above (area_of c d a) l) h)
            | false ↦ λ f h. common_swapped a b c d (second_rises c d a b (up_to_false a c e).across ab.across (up_to_false d b f).across
                (minus_above (area_of c d a) l) (minus_below (area_of c d b) h))
          ]) refl high
    ]) refl low

no_start_gap : (a b c d : Place) → IsUpTo c b → IsUpTo a d → start_gap a b c d ≡ pos 0 → CommonPoint a b c d
no_start_gap a b c d cb ad none =
    (elim (is_before a c) as (λ s. is_before a c ≡ s → (elim s [ true ↦ area_of a b c | false ↦ pos 0 -ℤ area_of c d a ]) ≡ pos 0
    → CommonPoint a b c d) [
      | true ↦ λ e z. common_swapped a b c d (common_at_start c d a b (on_by_order a b c (up_to_true a c e) cb z))
      | false ↦ λ e z. common_at_start a b c d (on_by_order c d a (up_to_false a c e) ad (minus_zero (area_of c d a) z))
    ]) refl none

no_end_gap : (a b c d : Place) → IsUpTo c b → IsUpTo a d → end_gap a b c d ≡ pos 0 → CommonPoint a b c d
no_end_gap a b c d cb ad none =
    (elim (is_before d b) as (λ s. is_before d b ≡ s → (elim s [ true ↦ area_of a b d | false ↦ pos 0 -ℤ area_of c d b ]) ≡ pos 0
    → CommonPoint a b c d) [
      | true ↦ λ e z. common_swapped a b c d (common_at_end c d a b (on_by_order a b d ad (up_to_true d b e) z))
      | false ↦ λ e z. common_at_end a b c d (on_by_order c d b cb (up_to_false d b e) (minus_zero (area_of c d b) z))
    ]) refl none

-- Two edges that run in one direction, whose spans meet, and that have no common point: one is above the other at both ends of what they
-- share.
pub one_above : (a b c d : Place) → IsUpTo a b → IsUpTo c d → IsUpTo c b → IsUpTo a d → ¬ (CommonPoint a b c d)
    → SameSign (start_gap a b c d) (end_gap a b c d)
one_above a b c d ab cd cb ad apart =
    elim (sign_of (start_gap a b c d)) [
      | Negative h ↦ elim (sign_of (end_gap a b c d)) [
        | Negative k ↦ BothBelow h k
        | Zero k ↦ absurd (apart (no_end_gap a b c d cb ad k))
        | Positive k ↦ absurd (apart (gaps_rise a b c d ab cd cb ad h k))
      ]
      | Zero h ↦ absurd (apart (no_start_gap a b c d cb ad h))
      | Positive h ↦ elim (sign_of (end_gap a b c d)) [
        | Negative k ↦ absurd (apart (gaps_fall a b c d ab cd cb ad h k))
        | Zero k ↦ absurd (apart (no_end_gap a b c d cb ad k))
        | Positive k ↦ BothAbove h k
      ]
    ]
