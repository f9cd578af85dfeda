-- A place beyond all places of a closed walk, on one of the four sides: it is on no edge of the walk, and the walk is crossed
-- from it an even number of times.
use Rattle.std.proofs.Common.{◌≡◌, Bool, true, false, List, [], ◌∷◌, ℤ, pos, negsuc, ◌+ℤ◌, ◌-ℤ◌, ◌*ℤ◌, ◌≤ℤ◌, ◌<ℤ◌, arith, refl, sym, ap}
use Rattle.std.proofs.Common.{◌∙◌}
use Rattle.std.specs.List.{AllByRecursion}
use Rattle.grid_exact.specs.Geometry.{Place, area_of, IsBefore, IsOnSegment}
use Rattle.grid_exact.specs.Geometry.IsBefore.{Left, Below}
use Rattle.grid_exact.specs.Crossing.{is_before, is_crossed}
use Rattle.grid_exact.specs.Walks.{EachEdge, end_of, count_edges, is_odd, differ}
use Rattle.grid_exact.proofs.WholeLaws.{sums}
use Rattle.grid_exact.proofs.Signs.{Negative, Zero, Positive, sign_of, times_nonnegative, times_positive, times_negative}
use Rattle.grid_exact.proofs.Signs.{nonnegative_times_nonpositive}
use Rattle.grid_exact.proofs.Polynomial.{Whole, ◌⊕◌, ◌⊖◌, ◌⊗◌, ◌≈◌, ◌times◌, Variable, identity_6, by_multiples}
use Rattle.grid_exact.proofs.Orders.{lt_yes, lt_no, before_yes, before_no, compared, Before, Same, After}
use Rattle.grid_exact.proofs.Commons.{up_of}
use Rattle.grid_exact.proofs.Crossings.{crossed_turned, crossed_between, crossed_after, crossed_before}
use Rattle.grid_exact.proofs.Walks.{counted_alike}
use Rattle.grid_exact.proofs.Areas.{area_parts}

-- ---- on one axis

-- what is at some part of the way is not before both ends, nor past both
not_before_both : (n s a b v : ℤ) → pos 1 ≤ℤ n → pos 0 ≤ℤ s → s ≤ℤ n → n *ℤ v ≡ n *ℤ a +ℤ s *ℤ (b -ℤ a) → v <ℤ a → v <ℤ b → ⊥
not_before_both n s a b v one from to place before_a before_b =
    let x = Variable in
    let sum : (n -ℤ s) *ℤ (a -ℤ v) +ℤ s *ℤ (b -ℤ v) ≡ pos 0 = by_multiples (n ∷ s ∷ a ∷ b ∷ v ∷ [])
    ((x 0 ⊖ x 1) ⊗ (x 2 ⊖ x 4) ⊕ x 1 ⊗ (x 3 ⊖ x 4) ≈ Whole (pos 0))
    ((Whole (negsuc 0) times (x 0 ⊗ x 4 ≈ x 0 ⊗ x 2 ⊕ x 1 ⊗ (x 3 ⊖ x 2))) ∷ []) (place, tt) refl in
    elim (sign_of s) [
      | Negative h ↦ omega (arith, sums)
      | Zero h ↦
          let p : pos 0 <ℤ ((n -ℤ s) *ℤ (a -ℤ v)) = times_positive (n -ℤ s) (a -ℤ v) (omega (arith, sums)) (omega (arith, sums)) in
          let q : pos 0 ≤ℤ (s *ℤ (b -ℤ v)) = times_nonnegative s (b -ℤ v) from (omega (arith, sums)) in
          omega (arith, sums)
      | Positive h ↦
          let p : pos 0 ≤ℤ ((n -ℤ s) *ℤ (a -ℤ v)) = times_nonnegative (n -ℤ s) (a -ℤ v) (omega (arith, sums)) (omega (arith, sums)) in
          let q : pos 0 <ℤ (s *ℤ (b -ℤ v)) = times_positive s (b -ℤ v) h (omega (arith, sums)) in
          omega (arith, sums)
    ]

not_past_both : (n s a b v : ℤ) → pos 1 ≤ℤ n → pos 0 ≤ℤ s → s ≤ℤ n → n *ℤ v ≡ n *ℤ a +ℤ s *ℤ (b -ℤ a) → a <ℤ v → b <ℤ v → ⊥
not_past_both n s a b v one from to place past_a past_b =
    let x = Variable in
    let sum : (n -ℤ s) *ℤ (v -ℤ a) +ℤ s *ℤ (v -ℤ b) ≡ pos 0 = by_multiples (n ∷ s ∷ a ∷ b ∷ v ∷ [])
    ((x 0 ⊖ x 1) ⊗ (x 4 ⊖ x 2) ⊕ x 1 ⊗ (x 4 ⊖ x 3) ≈ Whole (pos 0))
    ((Whole (pos 1) times (x 0 ⊗ x 4 ≈ x 0 ⊗ x 2 ⊕ x 1 ⊗ (x 3 ⊖ x 2))) ∷ []) (place, tt) refl in
    elim (sign_of s) [
      | Negative h ↦ omega (arith, sums)
      | Zero h ↦
          let p : pos 0 <ℤ ((n -ℤ s) *ℤ (v -ℤ a)) = times_positive (n -ℤ s) (v -ℤ a) (omega (arith, sums)) (omega (arith, sums)) in
          let q : pos 0 ≤ℤ (s *ℤ (v -ℤ b)) = times_nonnegative s (v -ℤ b) from (omega (arith, sums)) in
          omega (arith, sums)
      | Positive h ↦
          let p : pos 0 ≤ℤ ((n -ℤ s) *ℤ (v -ℤ a)) = times_nonnegative (n -ℤ s) (v -ℤ a) (omega (arith, sums)) (omega (arith, sums)) in
          let q : pos 0 <ℤ (s *ℤ (v -ℤ b)) = times_positive s (v -ℤ b) h (omega (arith, sums)) in
          omega (arith, sums)
    ]

-- ---- one edge

-- where p stands, seen from a place
pub data Side : Type 0 where
  ToTheLeft : Side
  ToTheRight : Side
  Under : Side
  Over : Side

-- p is on this side of q
abbrev pub IsOn : Side → Place → Place → Type 0
IsOn ToTheLeft p q = p.x <ℤ q.x
IsOn ToTheRight p q = q.x <ℤ p.x
IsOn Under p q = p.y <ℤ q.y
IsOn Over p q = q.y <ℤ p.y

pub beyond_off : (side : Side) (p a b : Place) → IsOn side p a → IsOn side p b → ¬ (IsOnSegment a b p)
beyond_off ToTheLeft p a b h k on = not_before_both on.denominator on.numerator a.x b.x p.x on.whole on.from_start on.to_end on.across h k
beyond_off ToTheRight p a b h k on = not_past_both on.denominator on.numerator a.x b.x p.x on.whole on.from_start on.to_end on.across h k
beyond_off Under p a b h k on = not_before_both on.denominator on.numerator a.y b.y p.y on.whole on.from_start on.to_end on.up h k
beyond_off Over p a b h k on = not_past_both on.denominator on.numerator a.y b.y p.y on.whole on.from_start on.to_end on.up h k

across_or_same : (a b : Place) → IsBefore a b → a.x ≤ℤ b.x
across_or_same a b (Left h) = omega (arith, sums)
across_or_same a b (Below e h) = omega (arith, sums)

over_area : (a b p : Place) → IsBefore a p → IsBefore p b → a.y <ℤ p.y → b.y <ℤ p.y → pos 0 ≤ℤ area_of a b p
over_area a b p ap' pb h k =
    let l = across_or_same a p ap' in
    let r = across_or_same p b pb in
    let first : pos 0 ≤ℤ ((b.x -ℤ p.x) *ℤ (p.y -ℤ a.y)) = times_nonnegative (b.x -ℤ p.x) (p.y -ℤ a.y) (omega (arith, sums))
    (omega (arith, sums)) in
    let second : pos 0 ≤ℤ ((p.x -ℤ a.x) *ℤ (p.y -ℤ b.y)) = times_nonnegative (p.x -ℤ a.x) (p.y -ℤ b.y) (omega (arith, sums))
    (omega (arith, sums)) in
    omega (arith, sums, area_parts a b p)

under_area : (a b p : Place) → IsBefore a p → IsBefore p b → p.y <ℤ a.y → p.y <ℤ b.y → area_of a b p <ℤ pos 0
under_area a b p (Below e l) pb h k = absurd (omega (arith, sums))
under_area a b p (Left l) pb h k =
    let r = across_or_same p b pb in
    let first : ((b.x -ℤ p.x) *ℤ (p.y -ℤ a.y)) ≤ℤ pos 0 = nonnegative_times_nonpositive (b.x -ℤ p.x) (p.y -ℤ a.y) (omega (arith, sums))
    (omega (arith, sums)) in
    let second : ((p.x -ℤ a.x) *ℤ (p.y -ℤ b.y)) <ℤ pos 0 = times_negative (p.x -ℤ a.x) (p.y -ℤ b.y) (omega (arith, sums))
    (omega (arith, sums)) in
    omega (arith, sums, area_parts a b p)

-- a place is not level with one that it is over, or under
not_level_over : (a p : Place) → a ≡ p → a.y <ℤ p.y → ⊥
not_level_over a p e h = let f = up_of a p e in omega (arith, sums)

not_level_under : (a p : Place) → a ≡ p → p.y <ℤ a.y → ⊥
not_level_under a p e h = let f = up_of a p e in omega (arith, sums)

-- from over an edge it is never crossed
over_crossed : (p a b : Place) → a.y <ℤ p.y → b.y <ℤ p.y → is_crossed p a b ≡ false
over_crossed p a b h k = elim (compared a p) [
  | Same e ↦ absurd (not_level_over a p e h)
  | Before l ↦ elim (compared b p) [
    | Same e ↦ absurd (not_level_over b p e k)
    | Before r ↦ crossed_after p a b l r
    | After r ↦ crossed_between p a b l r ∙ lt_no (area_of a b p) (pos 0) (over_area a b p l r h k)
  ]
  | After l ↦ elim (compared b p) [
    | Same e ↦ absurd (not_level_over b p e k)
    | Before r ↦ crossed_turned p a b ∙ crossed_between p b a r l ∙ lt_no (area_of b a p) (pos 0) (over_area b a p r l k h)
    | After r ↦ crossed_before p a b l r
  ]
]

both_marks : (a b p : Place) (s t : Bool) → is_before a p ≡ s → is_before b p ≡ t → differ (is_before a p) (is_before b p) ≡ differ s t
both_marks a b p s t e f = ap (λ x. differ x (is_before b p)) e ∙ ap (λ x. differ s x) f

-- from under an edge it is crossed exactly where its ends are before and after the place
under_crossed : (p a b : Place) → p.y <ℤ a.y → p.y <ℤ b.y → is_crossed p a b ≡ differ (is_before a p) (is_before b p)
under_crossed p a b h k = elim (compared a p) [
  | Same e ↦ absurd (not_level_under a p e h)
  | Before l ↦ elim (compared b p) [
    | Same e ↦ absurd (not_level_under b p e k)
    | Before r ↦ crossed_after p a b l r ∙ sym (both_marks a b p true true (before_yes a p l) (before_yes b p r))
    | After r ↦ crossed_between p a b l r ∙ lt_yes (area_of a b p) (pos 0) (under_area a b p l r h k)
        ∙ sym (both_marks a b p true false (before_yes a p l) (before_no b p r))
  ]
  | After l ↦ elim (compared b p) [
    | Same e ↦ absurd (not_level_under b p e k)
    | Before r ↦ crossed_turned p a b ∙ crossed_between p b a r l ∙ lt_yes (area_of b a p) (pos 0) (under_area b a p r l k h)
        ∙ sym (both_marks a b p false true (before_no a p l) (before_yes b p r))
    | After r ↦ crossed_before p a b l r ∙ sym (both_marks a b p false false (before_no a p l) (before_no b p r))
  ]
]

-- ---- closed walks

-- what a place is marked by, seen from p on this side of it
abbrev mark_of : Side → Place → Place → Bool
mark_of ToTheLeft p q = false
mark_of ToTheRight p q = false
mark_of Under p q = is_before q p
mark_of Over p q = false

beyond_crossed : (side : Side) (p a b : Place) → IsOn side p a → IsOn side p b
    → is_crossed p a b ≡ differ (mark_of side p a) (mark_of side p b)
beyond_crossed ToTheLeft p a b h k = crossed_before p a b (Left h) (Left k)
beyond_crossed ToTheRight p a b h k = crossed_after p a b (Left h) (Left k)
beyond_crossed Under p a b h k = under_crossed p a b h k
beyond_crossed Over p a b h k = over_crossed p a b h k

never : Place → Place → Bool
never a b = false

none_counted : (v : Place) (ws : List Place) → is_odd (count_edges never v ws) ≡ false
unfolding never
none_counted v [] = refl
none_counted v (w ∷ ws) = none_counted w ws

marks_even : (c s t : Bool) → c ≡ differ s t → differ (differ c false) (differ s t) ≡ false
marks_even true true true e = cc
marks_even true true false e = refl
marks_even true false true e = refl
marks_even true false false e = cc
marks_even false true true e = refl
marks_even false true false e = cc
marks_even false false true e = cc
marks_even false false false e = refl

edges_beyond : (side : Side) (p v : Place) (ws : List Place) → AllByRecursion (IsOn side p) (v ∷ ws)
    → EachEdge (λ a b. differ (differ (is_crossed p a b) (never a b)) (differ (mark_of side p a) (mark_of side p b)) ≡ false) v ws
unfolding never
edges_beyond side p v [] h = tt
edges_beyond side p v (w ∷ ws) h = (
  marks_even (is_crossed p v w) (mark_of side p v) (mark_of side p w)
      (beyond_crossed side p v w h.0 h.1.0),
  edges_beyond side p w ws h.1,
)

-- From beyond a closed walk it is crossed an even number of times.
pub beyond_even : (side : Side) (p v : Place) (ws : List Place) → AllByRecursion (IsOn side p) (v ∷ ws) → end_of v ws ≡ v
    → is_odd (count_edges (is_crossed p) v ws) ≡ false
beyond_even side p v ws h closed = counted_alike (is_crossed p) never (mark_of side p) v ws (edges_beyond side p v ws h) closed
    ∙ none_counted v ws
