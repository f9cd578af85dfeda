-- The crossings of an edge, its sideways crossings and its ends ahead have an even sum.
use Rattle.std.proofs.Common.{◌≡◌, Bool, true, false, ◌&&◌, ◌||◌, [], ◌∷◌, pos, negsuc, ◌+ℤ◌, ◌-ℤ◌, ◌*ℤ◌, ◌≤ℤ◌, ◌<ℤ◌, int_lt, refl, ap, ◌∙◌}
use Rattle.std.proofs.Common.{arith}
use Rattle.std.proofs.lemmas.Int.{ints}
use Rattle.grid_exact.specs.Geometry.{Place, area_of, turned, IsBefore, IsOnSegment}
use Rattle.grid_exact.specs.Geometry.IsBefore.{Left, Below}
use lib.IntN.{*ℤ_comm}
use Rattle.grid_exact.proofs.WholeLaws.{sums}
use Rattle.grid_exact.proofs.Signs.{Negative, Zero, Positive, sign_of, times_nonnegative, times_positive, times_negative}
use Rattle.grid_exact.proofs.Signs.{nonnegative_times_nonpositive, nonpositive_times_nonpositive}
use Rattle.grid_exact.proofs.Polynomial.{Whole, ◌⊕◌, ◌⊖◌, ◌⊗◌, ◌≈◌, ◌times◌, Variable, by_multiples}
use Rattle.grid_exact.proofs.Segments.{start_is_on}
use Rattle.grid_exact.specs.Crossing.{is_crossed, is_crossed_sideways, is_ahead}
use Rattle.grid_exact.specs.Walks.{differ}
use Rattle.grid_exact.proofs.Orders.{lt_yes, lt_no, before_yes, before_no, one_side, opposite_sides}
use Rattle.grid_exact.proofs.Areas.{area_about, area_turned}
use Rattle.grid_exact.proofs.Crossings.{differ_turned, crossed_turned, sideways_turned}
use Rattle.grid_exact.proofs.Commons.{on_turned}

-- where v lies, seen from p
pub data Quadrant (p v : Place) : Type 0 where
  Ahead : IsBefore p v → IsBefore (turned p) (turned v) → p.x ≤ℤ v.x → p.y ≤ℤ v.y → Quadrant p v
  Behind : IsBefore v p → IsBefore (turned v) (turned p) → v.x ≤ℤ p.x → v.y ≤ℤ p.y → Quadrant p v
  Aside : IsBefore p v → IsBefore (turned v) (turned p) → p.x <ℤ v.x → v.y <ℤ p.y → Quadrant p v
  Above : IsBefore v p → IsBefore (turned p) (turned v) → v.x <ℤ p.x → p.y <ℤ v.y → Quadrant p v

pub quadrant_of : (p v : Place) → ¬ ((p.x ≡ v.x) × (p.y ≡ v.y)) → Quadrant p v
quadrant_of p v other =
    elim (sign_of (v.x -ℤ p.x)) [
      | Negative h ↦
          elim (sign_of (v.y -ℤ p.y)) [
            | Negative k ↦ Behind (Left (omega (arith, sums))) (Left (omega (arith, sums))) (omega (arith, sums)) (omega (arith, sums))
            | Zero k ↦ Behind (Left (omega (arith, sums))) (Below (omega (arith, sums)) (omega (arith, sums))) (omega (arith, sums))
                (omega (arith, sums))
            | Positive k ↦ Above (Left (omega (arith, sums))) (Left (omega (arith, sums))) (omega (arith, sums)) (omega (arith, sums))
          ]
      | Zero h ↦
          elim (sign_of (v.y -ℤ p.y)) [
            | Negative k ↦ Behind (Below (omega (arith, sums)) (omega (arith, sums))) (Left (omega (arith, sums))) (omega (arith, sums))
                (omega (arith, sums))
            | Zero k ↦ absurd (other (omega (arith, sums), omega (arith, sums)))
            | Positive k ↦ Ahead (Below (omega (arith, sums)) (omega (arith, sums))) (Left (omega (arith, sums))) (omega (arith, sums))
                (omega (arith, sums))
          ]
      | Positive h ↦
          elim (sign_of (v.y -ℤ p.y)) [
            | Negative k ↦ Aside (Left (omega (arith, sums))) (Left (omega (arith, sums))) (omega (arith, sums)) (omega (arith, sums))
            | Zero k ↦ Ahead (Left (omega (arith, sums))) (Below (omega (arith, sums)) (omega (arith, sums))) (omega (arith, sums))
                (omega (arith, sums))
            | Positive k ↦ Ahead (Left (omega (arith, sums))) (Left (omega (arith, sums))) (omega (arith, sums)) (omega (arith, sums))
          ]
    ]

-- the bits of an edge: crossed, crossed sideways, and each end ahead
abbrev pub bits_of : Place → Place → Place → Bool
bits_of p a b = differ (differ (is_crossed p a b) (is_crossed_sideways p a b)) (differ (is_ahead p a) (is_ahead p b))

-- ahead and aside: the way up passes p on its right
ahead_aside : (p a b : Place) → IsBefore p a → p.x ≤ℤ a.x → p.y ≤ℤ a.y → p.x <ℤ b.x → b.y <ℤ p.y → pos 0 <ℤ area_of b a p
ahead_aside p a b (Left h) k m r s =
    let e = area_about p b a in
    let u : pos 0 ≤ℤ ((b.x -ℤ p.x) *ℤ (a.y -ℤ p.y)) = times_nonnegative (b.x -ℤ p.x) (a.y -ℤ p.y) (omega (arith, sums))
    (omega (arith, sums)) in
    let v : ((a.x -ℤ p.x) *ℤ (b.y -ℤ p.y)) <ℤ pos 0 = times_negative (a.x -ℤ p.x) (b.y -ℤ p.y) (omega (arith, sums)) (omega (arith, sums))
    in
    let w = *ℤ_comm (a.x -ℤ p.x) (b.y -ℤ p.y) in
    omega (arith, sums, e, w)
ahead_aside p a b (Below f h) k m r s =
    let e = area_about p b a in
    let u : pos 0 <ℤ ((b.x -ℤ p.x) *ℤ (a.y -ℤ p.y)) = times_positive (b.x -ℤ p.x) (a.y -ℤ p.y) (omega (arith, sums)) (omega (arith, sums))
    in
    let v : ((a.x -ℤ p.x) *ℤ (b.y -ℤ p.y)) ≤ℤ pos 0 = nonnegative_times_nonpositive (a.x -ℤ p.x) (b.y -ℤ p.y) (omega (arith, sums))
    (omega (arith, sums)) in
    let w = *ℤ_comm (a.x -ℤ p.x) (b.y -ℤ p.y) in
    omega (arith, sums, e, w)

ahead_above : (p a b : Place) → IsBefore p a → p.x ≤ℤ a.x → p.y ≤ℤ a.y → b.x <ℤ p.x → p.y <ℤ b.y → area_of b a p <ℤ pos 0
ahead_above p a b (Left h) k m r s =
    let e = area_about p b a in
    let u : ((a.y -ℤ p.y) *ℤ (b.x -ℤ p.x)) ≤ℤ pos 0 = nonnegative_times_nonpositive (a.y -ℤ p.y) (b.x -ℤ p.x) (omega (arith, sums))
    (omega (arith, sums)) in
    let v : pos 0 <ℤ ((b.y -ℤ p.y) *ℤ (a.x -ℤ p.x)) = times_positive (b.y -ℤ p.y) (a.x -ℤ p.x) (omega (arith, sums)) (omega (arith, sums))
    in
    let w = *ℤ_comm (a.y -ℤ p.y) (b.x -ℤ p.x) in
    omega (arith, sums, e, w)
ahead_above p a b (Below f h) k m r s =
    let e = area_about p b a in
    let u : ((a.y -ℤ p.y) *ℤ (b.x -ℤ p.x)) <ℤ pos 0 = times_negative (a.y -ℤ p.y) (b.x -ℤ p.x) (omega (arith, sums)) (omega (arith, sums))
    in
    let v : pos 0 ≤ℤ ((b.y -ℤ p.y) *ℤ (a.x -ℤ p.x)) = times_nonnegative (b.y -ℤ p.y) (a.x -ℤ p.x) (omega (arith, sums))
    (omega (arith, sums)) in
    let w = *ℤ_comm (a.y -ℤ p.y) (b.x -ℤ p.x) in
    omega (arith, sums, e, w)

behind_aside : (p a b : Place) → a.x ≤ℤ p.x → a.y ≤ℤ p.y → p.x <ℤ b.x → b.y <ℤ p.y → pos 0 ≤ℤ area_of a b p
behind_aside p a b k m r s =
    let e = area_about p a b in
    let u : pos 0 ≤ℤ ((a.x -ℤ p.x) *ℤ (b.y -ℤ p.y)) = nonpositive_times_nonpositive (a.x -ℤ p.x) (b.y -ℤ p.y) (omega (arith, sums))
    (omega (arith, sums)) in
    let v : ((b.x -ℤ p.x) *ℤ (a.y -ℤ p.y)) ≤ℤ pos 0 = nonnegative_times_nonpositive (b.x -ℤ p.x) (a.y -ℤ p.y) (omega (arith, sums))
    (omega (arith, sums)) in
    let w = *ℤ_comm (b.x -ℤ p.x) (a.y -ℤ p.y) in
    omega (arith, sums, e, w)

behind_above : (p a b : Place) → a.x ≤ℤ p.x → a.y ≤ℤ p.y → b.x <ℤ p.x → p.y <ℤ b.y → area_of a b p ≤ℤ pos 0
behind_above p a b k m r s =
    let e = area_about p a b in
    let u : ((b.y -ℤ p.y) *ℤ (a.x -ℤ p.x)) ≤ℤ pos 0 = nonnegative_times_nonpositive (b.y -ℤ p.y) (a.x -ℤ p.x) (omega (arith, sums))
    (omega (arith, sums)) in
    let v : pos 0 ≤ℤ ((a.y -ℤ p.y) *ℤ (b.x -ℤ p.x)) = nonpositive_times_nonpositive (a.y -ℤ p.y) (b.x -ℤ p.x) (omega (arith, sums))
    (omega (arith, sums)) in
    let w = *ℤ_comm (b.y -ℤ p.y) (a.x -ℤ p.x) in
    omega (arith, sums, e, w)

-- p is strictly between the ends in both orders, and on their line: it is on the edge
between_on : (p a b : Place) → IsBefore p a → p.x ≤ℤ a.x → p.y ≤ℤ a.y → b.x ≤ℤ p.x → b.y ≤ℤ p.y → area_of a b p ≡ pos 0 → IsOnSegment a b p
between_on p a b first k m r s flat =
    let x = Variable in
    let some : pos 1 ≤ℤ ((a.x -ℤ p.x) +ℤ (a.y -ℤ p.y)) = ahead_some p a first k m in
    record {
      denominator = ((a.x -ℤ p.x) +ℤ (a.y -ℤ p.y)) +ℤ ((p.x -ℤ b.x) +ℤ (p.y -ℤ b.y));
      numerator = (a.x -ℤ p.x) +ℤ (a.y -ℤ p.y);
      whole = omega (arith, sums);
      from_start = omega (arith, sums);
      to_end = omega (arith, sums);
      across = by_multiples (p.x ∷ p.y ∷ a.x ∷ a.y ∷ b.x ∷ b.y ∷ [])
          ((((x 2 ⊖ x 0) ⊕ (x 3 ⊖ x 1)) ⊕ ((x 0 ⊖ x 4) ⊕ (x 1 ⊖ x 5))) ⊗ x 0 ≈ (((x 2 ⊖ x 0) ⊕ (x 3 ⊖ x 1)) ⊕ ((x 0 ⊖ x 4) ⊕ (x 1 ⊖ x 5)))
          ⊗ x 2 ⊕ ((x 2 ⊖ x 0) ⊕ (x 3 ⊖ x 1)) ⊗ (x 4 ⊖ x 2))
          ((Whole (pos 1) times ((x 4 ⊖ x 2) ⊗ (x 1 ⊖ x 3) ⊖ (x 5 ⊖ x 3) ⊗ (x 0 ⊖ x 2) ≈ Whole (pos 0))) ∷ []) (flat, tt) refl;
      up = by_multiples (p.x ∷ p.y ∷ a.x ∷ a.y ∷ b.x ∷ b.y ∷ [])
          ((((x 2 ⊖ x 0) ⊕ (x 3 ⊖ x 1)) ⊕ ((x 0 ⊖ x 4) ⊕ (x 1 ⊖ x 5))) ⊗ x 1 ≈ (((x 2 ⊖ x 0) ⊕ (x 3 ⊖ x 1)) ⊕ ((x 0 ⊖ x 4) ⊕ (x 1 ⊖ x 5)))
          ⊗ x 3 ⊕ ((x 2 ⊖ x 0) ⊕ (x 3 ⊖ x 1)) ⊗ (x 5 ⊖ x 3))
          ((Whole (negsuc 0) times ((x 4 ⊖ x 2) ⊗ (x 1 ⊖ x 3) ⊖ (x 5 ⊖ x 3) ⊗ (x 0 ⊖ x 2) ≈ Whole (pos 0))) ∷ []) (flat, tt) refl;
    }
  where
    ahead_some : (p a : Place) → IsBefore p a → p.x ≤ℤ a.x → p.y ≤ℤ a.y → pos 1 ≤ℤ ((a.x -ℤ p.x) +ℤ (a.y -ℤ p.y))
    ahead_some p a (Left h) k m = omega (arith, ints)
    ahead_some p a (Below f h) k m = omega (arith, ints)

bits_turned : (p a b : Place) → bits_of p b a ≡ false → bits_of p a b ≡ false
bits_turned p a b e = ap (λ t. differ (differ t (is_crossed_sideways p a b)) (differ (is_ahead p a) (is_ahead p b))) (crossed_turned p a b)
    ∙ ap (λ t. differ (differ (is_crossed p b a) t) (differ (is_ahead p a) (is_ahead p b))) (sideways_turned p a b)
    ∙ ap (λ t. differ (differ (is_crossed p b a) (is_crossed_sideways p b a)) t) (differ_turned (is_ahead p a) (is_ahead p b)) ∙ e

ahead_and_ahead : (p a b : Place) → ¬ (IsOnSegment a b p) → IsBefore p a → IsBefore (turned p) (turned a) → p.x ≤ℤ a.x → p.y ≤ℤ a.y
    → IsBefore p b → IsBefore (turned p) (turned b) → p.x ≤ℤ b.x → p.y ≤ℤ b.y → bits_of p a b ≡ false
ahead_and_ahead p a b off a1 a2 a3 a4 b1 b2 b3 b4 =
    simp (
      before_yes p a a1,
      before_no a p a1,
      before_yes (turned p) (turned a) a2,
      before_no (turned a) (turned p) a2,
      before_yes p b b1,
      before_no b p b1,
      before_yes (turned p) (turned b) b2,
      before_no (turned b) (turned p) b2,
    )

behind_and_behind : (p a b : Place) → ¬ (IsOnSegment a b p) → IsBefore a p → IsBefore (turned a) (turned p) → a.x ≤ℤ p.x → a.y ≤ℤ p.y
    → IsBefore b p → IsBefore (turned b) (turned p) → b.x ≤ℤ p.x → b.y ≤ℤ p.y → bits_of p a b ≡ false
behind_and_behind p a b off a1 a2 a3 a4 b1 b2 b3 b4 =
    simp (
      before_yes a p a1,
      before_no p a a1,
      before_yes (turned a) (turned p) a2,
      before_no (turned p) (turned a) a2,
      before_yes b p b1,
      before_no p b b1,
      before_yes (turned b) (turned p) b2,
      before_no (turned p) (turned b) b2,
    )

aside_and_aside : (p a b : Place) → ¬ (IsOnSegment a b p) → IsBefore p a → IsBefore (turned a) (turned p) → p.x <ℤ a.x → a.y <ℤ p.y
    → IsBefore p b → IsBefore (turned b) (turned p) → p.x <ℤ b.x → b.y <ℤ p.y → bits_of p a b ≡ false
aside_and_aside p a b off a1 a2 a3 a4 b1 b2 b3 b4 =
    simp (
      before_yes p a a1,
      before_no a p a1,
      before_yes (turned a) (turned p) a2,
      before_no (turned p) (turned a) a2,
      before_yes p b b1,
      before_no b p b1,
      before_yes (turned b) (turned p) b2,
      before_no (turned p) (turned b) b2,
    )

above_and_above : (p a b : Place) → ¬ (IsOnSegment a b p) → IsBefore a p → IsBefore (turned p) (turned a) → a.x <ℤ p.x → p.y <ℤ a.y
    → IsBefore b p → IsBefore (turned p) (turned b) → b.x <ℤ p.x → p.y <ℤ b.y → bits_of p a b ≡ false
above_and_above p a b off a1 a2 a3 a4 b1 b2 b3 b4 =
    simp (
      before_yes a p a1,
      before_no p a a1,
      before_yes (turned p) (turned a) a2,
      before_no (turned a) (turned p) a2,
      before_yes b p b1,
      before_no p b b1,
      before_yes (turned p) (turned b) b2,
      before_no (turned b) (turned p) b2,
    )

ahead_and_aside : (p a b : Place) → ¬ (IsOnSegment a b p) → IsBefore p a → IsBefore (turned p) (turned a) → p.x ≤ℤ a.x → p.y ≤ℤ a.y
    → IsBefore p b → IsBefore (turned b) (turned p) → p.x <ℤ b.x → b.y <ℤ p.y → bits_of p a b ≡ false
ahead_and_aside p a b off a1 a2 a3 a4 b1 b2 b3 b4 =
    simp (
      before_yes p a a1,
      before_no a p a1,
      before_yes (turned p) (turned a) a2,
      before_no (turned a) (turned p) a2,
      before_yes p b b1,
      before_no b p b1,
      before_yes (turned b) (turned p) b2,
      before_no (turned p) (turned b) b2,
      lt_yes (pos 0) (area_of b a p)
          (ahead_aside p a b a1 a3 a4 b3 b4),
    )

ahead_and_above : (p a b : Place) → ¬ (IsOnSegment a b p) → IsBefore p a → IsBefore (turned p) (turned a) → p.x ≤ℤ a.x → p.y ≤ℤ a.y
    → IsBefore b p → IsBefore (turned p) (turned b) → b.x <ℤ p.x → p.y <ℤ b.y → bits_of p a b ≡ false
ahead_and_above p a b off a1 a2 a3 a4 b1 b2 b3 b4 =
    simp (
      before_yes p a a1,
      before_no a p a1,
      before_yes (turned p) (turned a) a2,
      before_no (turned a) (turned p) a2,
      before_yes b p b1,
      before_no p b b1,
      before_yes (turned p) (turned b) b2,
      before_no (turned b) (turned p) b2,
      lt_yes (area_of b a p) (pos 0)
          (ahead_above p a b a1 a3 a4 b3 b4),
    )

ahead_and_behind : (p a b : Place) → ¬ (IsOnSegment a b p) → IsBefore p a → IsBefore (turned p) (turned a) → p.x ≤ℤ a.x → p.y ≤ℤ a.y
    → IsBefore b p → IsBefore (turned b) (turned p) → b.x ≤ℤ p.x → b.y ≤ℤ p.y → bits_of p a b ≡ false
ahead_and_behind p a b off a1 a2 a3 a4 b1 b2 b3 b4 =
    simp (
      before_yes p a a1,
      before_no a p a1,
      before_yes (turned p) (turned a) a2,
      before_no (turned a) (turned p) a2,
      before_yes b p b1,
      before_no p b b1,
      before_yes (turned b) (turned p) b2,
      before_no (turned p) (turned b) b2,
      one_side (area_of b a p) (λ e.
          off (between_on p a b a1 a3 a4 b3 b4 (area_turned p b a ∙ ap (λ z. pos 0 -ℤ z) e))),
    )

behind_and_aside : (p a b : Place) → ¬ (IsOnSegment a b p) → IsBefore a p → IsBefore (turned a) (turned p) → a.x ≤ℤ p.x → a.y ≤ℤ p.y
    → IsBefore p b → IsBefore (turned b) (turned p) → p.x <ℤ b.x → b.y <ℤ p.y → bits_of p a b ≡ false
behind_and_aside p a b off a1 a2 a3 a4 b1 b2 b3 b4 =
    simp (
      before_yes a p a1,
      before_no p a a1,
      before_yes (turned a) (turned p) a2,
      before_no (turned p) (turned a) a2,
      before_yes p b b1,
      before_no b p b1,
      before_yes (turned b) (turned p) b2,
      before_no (turned p) (turned b) b2,
      lt_no (area_of a b p) (pos 0)
          (behind_aside p a b a3 a4 b3 b4),
    )

behind_and_above : (p a b : Place) → ¬ (IsOnSegment a b p) → IsBefore a p → IsBefore (turned a) (turned p) → a.x ≤ℤ p.x → a.y ≤ℤ p.y
    → IsBefore b p → IsBefore (turned p) (turned b) → b.x <ℤ p.x → p.y <ℤ b.y → bits_of p a b ≡ false
behind_and_above p a b off a1 a2 a3 a4 b1 b2 b3 b4 =
    simp (
      before_yes a p a1,
      before_no p a a1,
      before_yes (turned a) (turned p) a2,
      before_no (turned p) (turned a) a2,
      before_yes b p b1,
      before_no p b b1,
      before_yes (turned p) (turned b) b2,
      before_no (turned b) (turned p) b2,
      lt_no (pos 0) (area_of a b p)
          (behind_above p a b a3 a4 b3 b4),
    )

both_or_none : (x y z : Bool) → differ (differ (false && false && x || true && true && y) (true && true && y || false && false && z))
    (differ (true && false) (false && true)) ≡ false
both_or_none x true z = refl
both_or_none x false z = refl

aside_and_above : (p a b : Place) → ¬ (IsOnSegment a b p) → IsBefore p a → IsBefore (turned a) (turned p) → p.x <ℤ a.x → a.y <ℤ p.y
    → IsBefore b p → IsBefore (turned p) (turned b) → b.x <ℤ p.x → p.y <ℤ b.y → bits_of p a b ≡ false
aside_and_above p a b off a1 a2 a3 a4 b1 b2 b3 b4 =
    simp (
      before_yes p a a1,
      before_no a p a1,
      before_yes (turned a) (turned p) a2,
      before_no (turned p) (turned a) a2,
      before_yes b p b1,
      before_no p b b1,
      before_yes (turned p) (turned b) b2,
      before_no (turned b) (turned p) b2,
      opposite_sides (area_of b a p)
          (area_of a b p) (area_turned p b a),
    ) (both_or_none (int_lt (area_of a b p) (pos 0)) (int_lt (pos 0) (area_of a b p))
    (int_lt (pos 0) (area_of b a p)))

pub edge_bits : (p a b : Place) → ¬ (IsOnSegment a b p) → Quadrant p a → Quadrant p b → bits_of p a b ≡ false
edge_bits p a b off (Ahead a1 a2 a3 a4) (Ahead b1 b2 b3 b4) = ahead_and_ahead p a b off a1 a2 a3 a4 b1 b2 b3 b4
edge_bits p a b off (Ahead a1 a2 a3 a4) (Behind b1 b2 b3 b4) = ahead_and_behind p a b off a1 a2 a3 a4 b1 b2 b3 b4
edge_bits p a b off (Ahead a1 a2 a3 a4) (Aside b1 b2 b3 b4) = ahead_and_aside p a b off a1 a2 a3 a4 b1 b2 b3 b4
edge_bits p a b off (Ahead a1 a2 a3 a4) (Above b1 b2 b3 b4) = ahead_and_above p a b off a1 a2 a3 a4 b1 b2 b3 b4
edge_bits p a b off (Behind a1 a2 a3 a4) (Ahead b1 b2 b3 b4) = bits_turned p a b
    (ahead_and_behind p b a (λ h. off (on_turned b a p h)) b1 b2 b3 b4 a1 a2 a3 a4)
edge_bits p a b off (Behind a1 a2 a3 a4) (Behind b1 b2 b3 b4) = behind_and_behind p a b off a1 a2 a3 a4 b1 b2 b3 b4
edge_bits p a b off (Behind a1 a2 a3 a4) (Aside b1 b2 b3 b4) = behind_and_aside p a b off a1 a2 a3 a4 b1 b2 b3 b4
edge_bits p a b off (Behind a1 a2 a3 a4) (Above b1 b2 b3 b4) = behind_and_above p a b off a1 a2 a3 a4 b1 b2 b3 b4
edge_bits p a b off (Aside a1 a2 a3 a4) (Ahead b1 b2 b3 b4) = bits_turned p a b
    (ahead_and_aside p b a (λ h. off (on_turned b a p h)) b1 b2 b3 b4 a1 a2 a3 a4)
edge_bits p a b off (Aside a1 a2 a3 a4) (Behind b1 b2 b3 b4) = bits_turned p a b
    (behind_and_aside p b a (λ h. off (on_turned b a p h)) b1 b2 b3 b4 a1 a2 a3 a4)
edge_bits p a b off (Aside a1 a2 a3 a4) (Aside b1 b2 b3 b4) = aside_and_aside p a b off a1 a2 a3 a4 b1 b2 b3 b4
edge_bits p a b off (Aside a1 a2 a3 a4) (Above b1 b2 b3 b4) = aside_and_above p a b off a1 a2 a3 a4 b1 b2 b3 b4
edge_bits p a b off (Above a1 a2 a3 a4) (Ahead b1 b2 b3 b4) = bits_turned p a b
    (ahead_and_above p b a (λ h. off (on_turned b a p h)) b1 b2 b3 b4 a1 a2 a3 a4)
edge_bits p a b off (Above a1 a2 a3 a4) (Behind b1 b2 b3 b4) = bits_turned p a b
    (behind_and_above p b a (λ h. off (on_turned b a p h)) b1 b2 b3 b4 a1 a2 a3 a4)
edge_bits p a b off (Above a1 a2 a3 a4) (Aside b1 b2 b3 b4) = bits_turned p a b
    (aside_and_above p b a (λ h. off (on_turned b a p h)) b1 b2 b3 b4 a1 a2 a3 a4)
edge_bits p a b off (Above a1 a2 a3 a4) (Above b1 b2 b3 b4) = above_and_above p a b off a1 a2 a3 a4 b1 b2 b3 b4

-- An edge that p is not on: its crossings, its sideways crossings and its ends ahead have an even sum.
pub edge_parity : (p a b : Place) → ¬ (IsOnSegment a b p) → bits_of p a b ≡ false
edge_parity p a b off = edge_bits p a b off (quadrant_of p a (λ e. off (start_is_on a b p e.0 e.1)))
    (quadrant_of p b (λ e. off (on_turned b a p (start_is_on b a p e.0 e.1))))
