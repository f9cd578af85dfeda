-- The order of places that compares x, then y, and what two edges after one another share.
--
-- `compared` splits into before, same and after; `tested` splits the test `is_before` with what each answer says. For the
-- order that compares y, then x, give the places as `turned`.
use Rattle.std.proofs.Common.{◌≡◌, inl, inr, Bool, true, false, [], ◌∷◌, ℤ, pos, negsuc, ◌+ℤ◌, ◌-ℤ◌, ◌*ℤ◌, ◌≤ℤ◌, ◌<ℤ◌, int_lt, int_le, refl}
use Rattle.std.proofs.Common.{sym, ap, subst, ◌∙◌, arith, ◌↔◌, IsTrue, FitsSigned, to_z, of_z}
use Rattle.std.proofs.lemmas.Int.{ints, to_z-of_z}
use Rattle.std.specs.Int.Signed.{lt_z}
use mir.Syntax.{Width}
use Rattle.grid_exact.specs.Geometry.{Place, area_of, IsBefore, IsBetween, IsOnSegment, CommonPoint}
use Rattle.grid_exact.specs.Geometry.IsBefore.{Left, Below}
use Rattle.grid_exact.specs.Geometry.IsBetween.{Rising, Falling}
use lib.IntN.{*ℤ_comm, zero-*ℤ}
use Rattle.grid_exact.proofs.WholeLaws.{sums}
use Rattle.grid_exact.proofs.Signs.{Negative, Zero, Positive, sign_of, at_most_or_above, times_nonnegative, nonnegative_times_nonpositive}
use Rattle.grid_exact.proofs.Signs.{nonnegative_from_times, nonpositive_from_times, zero_from_times}
use Rattle.grid_exact.proofs.Polynomial.{Whole, ◌⊕◌, ◌⊖◌, ◌⊗◌, ◌≈◌, ◌times◌, Variable, by_multiples}
use Rattle.grid_exact.proofs.Spots.{spot, numbers_of, area_in}
use Rattle.grid_exact.proofs.Segments.{on_segment_by_signs}
use Rattle.grid_exact.specs.Crossing.{is_before}
use Rattle.grid_exact.specs.Walks.{differ}
use Rattle.grid_exact.specs.Spans.{IsUpTo}
use Rattle.grid_exact.proofs.Commons.{same_place}

-- ---- tests of whole numbers

pub denied : (t : Bool) → t ≡ false → IsTrue t → ⊥
denied t e h = cc

pub lt_yes : (a b : ℤ) → a <ℤ b → int_lt a b ≡ true
lt_yes a b h = grind (arith, ints)

pub lt_no : (a b : ℤ) → b ≤ℤ a → int_lt a b ≡ false
lt_no a b h = grind (arith, ints)

pub le_yes : (a b : ℤ) → a ≤ℤ b → int_le a b ≡ true
le_yes a b h = grind (arith, ints)

pub le_no : (a b : ℤ) → b <ℤ a → int_le a b ≡ false
le_no a b h = grind (arith, ints)

pub same_le : (a b : ℤ) → a ≡ b → a ≤ℤ b
same_le a b e = omega (arith, ints)

pub weaker : (a b : ℤ) → a <ℤ b → a ≤ℤ b
weaker a b e = omega (arith, ints)

-- a number that is not 0 is on just one side of it
pub one_side : (z : ℤ) → ¬ (z ≡ pos 0) → differ (int_lt z (pos 0)) (int_lt (pos 0) z) ≡ true
one_side z other = elim (sign_of z) [
  | Negative h ↦ simp (lt_yes z (pos 0) h, lt_no (pos 0) z (weaker z (pos 0) h))
  | Zero h ↦ absurd (other h)
  | Positive h ↦ simp (lt_no z (pos 0) (weaker (pos 0) z h), lt_yes (pos 0) z h)
]

pub opposite_sides : (y z : ℤ) → z ≡ pos 0 -ℤ y → int_lt y (pos 0) ≡ int_lt (pos 0) z
opposite_sides y z e = elim (at_most_or_above (pos 0) y) [
  | inl h ↦ lt_no y (pos 0) h ∙ sym (lt_no (pos 0) z (omega (arith, sums)))
  | inr h ↦ lt_yes y (pos 0) h ∙ sym (lt_yes (pos 0) z (omega (arith, sums)))
]

-- what a test of two numbers in the code says, where these fit and are known
pub below_tested : {P : Type 0} (w : Width) (a b a' b' : ℤ) → FitsSigned w a → FitsSigned w b → a ≡ a' → b ≡ b' → ((a' <ℤ b') ↔ P)
    → IsTrue (lt_z (to_z w (of_z w a)) (to_z w (of_z w b))) ↔ P
below_tested w a b a' b' f g p q both =
    let x : to_z w (of_z w a) ≡ a' = to_z-of_z w a f ∙ p in
    let y : to_z w (of_z w b) ≡ b' = to_z-of_z w b g ∙ q in
    (λ t. both.0 (omega (arith, ints, t)), λ h. let k : a' <ℤ b' = both.1 h in grind (arith, ints))

-- ---- the order of two and of three places

pub before_yes : (a b : Place) → IsBefore a b → is_before a b ≡ true
before_yes a b (Left h) = simp (lt_yes a.x b.x h)
before_yes a b (Below e h) = simp (lt_no a.x b.x (same_le b.x a.x (sym e)), le_yes a.x b.x (same_le a.x b.x e), lt_yes a.y b.y h)

pub before_no : (a b : Place) → IsBefore b a → is_before a b ≡ false
before_no a b (Left h) = simp (lt_no a.x b.x (weaker b.x a.x h), le_no a.x b.x h)
before_no a b (Below e h) = simp (
  lt_no a.x b.x (same_le b.x a.x e),
  le_yes a.x b.x (same_le a.x b.x (sym e)),
  lt_no a.y b.y
      (weaker b.y a.y h),
)

pub data Compared (a b : Place) : Type 0 where
  Before : IsBefore a b → Compared a b
  Same : a ≡ b → Compared a b
  After : IsBefore b a → Compared a b

pub compared : (a b : Place) → Compared a b
compared a b =
    elim (sign_of (b.x -ℤ a.x)) [
      | Negative h ↦ After (Left (omega (arith, sums)))
      | Zero h ↦
          elim (sign_of (b.y -ℤ a.y)) [
            | Negative k ↦ After (Below (omega (arith, sums)) (omega (arith, sums)))
            | Zero k ↦ Same (same_place a b (omega (arith, sums)) (omega (arith, sums)))
            | Positive k ↦ Before (Below (omega (arith, sums)) (omega (arith, sums)))
          ]
      | Positive h ↦ Before (Left (omega (arith, sums)))
    ]

pub then_before : (a b c : Place) → IsBefore a b → IsBefore b c → IsBefore a c
then_before a b c (Left h) (Left k) = Left (omega (arith, sums))
then_before a b c (Left h) (Below e k) = Left (omega (arith, sums))
then_before a b c (Below e h) (Left k) = Left (omega (arith, sums))
then_before a b c (Below e h) (Below f k) = Below (omega (arith, sums)) (omega (arith, sums))

pub not_both_ways : (a b : Place) → IsBefore a b → IsBefore b a → ⊥
not_both_ways a b (Left h) (Left k) = omega (arith, sums)
not_both_ways a b (Left h) (Below e k) = omega (arith, sums)
not_both_ways a b (Below e h) (Left k) = omega (arith, sums)
not_both_ways a b (Below e h) (Below f k) = omega (arith, sums)

pub not_before_itself : (a b : Place) → a ≡ b → IsBefore a b → ⊥
not_before_itself a b same (Left h) = let e : a.x ≡ b.x = ap (λ (v : Place). v.x) same in omega (arith, sums)
not_before_itself a b same (Below e h) = let f : a.y ≡ b.y = ap (λ (v : Place). v.y) same in omega (arith, sums)

pub up_to : (a b : Place) → IsBefore a b → IsUpTo a b
up_to a b (Left h) = record { across = omega (arith, sums); level = λ e. absurd (omega (arith, sums)) }
up_to a b (Below e h) = record { across = omega (arith, sums); level = λ f. omega (arith, sums) }

pub up_to_same : (a b : Place) → a ≡ b → IsUpTo a b
up_to_same a b same = let e : a.x ≡ b.x = ap (λ (v : Place). v.x) same in let f : a.y ≡ b.y = ap (λ (v : Place). v.y) same in
    record { across = omega (arith, sums); level = λ g. omega (arith, sums) }

pub data UpTo (a b : Place) : Type 0 where
  Earlier : IsBefore a b → UpTo a b
  There : a ≡ b → UpTo a b

pub up_to_cases : (a b : Place) → IsUpTo a b → UpTo a b
up_to_cases a b h =
    elim (compared a b) [
      | Before k ↦ Earlier k
      | Same e ↦ There e
      | After k ↦ absurd (past a b h k)
    ]
  where
    past : (a b : Place) → IsUpTo a b → IsBefore b a → ⊥
    past a b h (Left k) = let l = h.across in omega (arith, sums)
    past a b h (Below e k) = let l = h.level (sym e) in omega (arith, sums)

pub before_up_to : (a b c : Place) → IsBefore a b → IsUpTo b c → IsBefore a c
before_up_to a b c h k = elim (up_to_cases b c k) [ Earlier l ↦ then_before a b c h l | There e ↦ subst (λ (v : Place). IsBefore a v) e h ]

pub up_to_before : (a b c : Place) → IsUpTo a b → IsBefore b c → IsBefore a c
up_to_before a b c h k = elim (up_to_cases a b h) [
  | Earlier l ↦ then_before a b c l k
  | There e ↦ subst (λ (v : Place). IsBefore v c) (sym e) k
]

-- the test is_before a b, with what it says
pub data Tested (a b : Place) : Type 0 where
  Yes : is_before a b ≡ true → IsBefore a b → Tested a b
  No : is_before a b ≡ false → IsUpTo b a → Tested a b

pub tested : (a b : Place) → Tested a b
tested a b =
    elim (compared a b) [
      | Before h ↦ Yes (before_yes a b h) h
      | Same e ↦ No (test_same a b e) (up_to_same b a (sym e))
      | After h ↦ No (before_no a b h) (up_to b a h)
    ]
  where
    test_same : (a b : Place) → a ≡ b → is_before a b ≡ false
    test_same a b same = let e : a.x ≡ b.x = ap (λ (v : Place). v.x) same in let f : a.y ≡ b.y = ap (λ (v : Place). v.y) same in
        grind (arith, ints)

pub not_tested : (a b : Place) → IsUpTo b a → is_before a b ≡ false
not_tested a b h = elim (tested a b) [ Yes e k ↦ absurd (not_before_itself a a refl (before_up_to a b a k h)) | No e k ↦ e ]

pub up_to_true : (a b : Place) → is_before a b ≡ true → IsUpTo a b
up_to_true a b h = record { across = grind (arith, ints); level = λ e. grind (arith, ints) }

pub up_to_false : (a b : Place) → is_before a b ≡ false → IsUpTo b a
up_to_false a b h = record { across = grind (arith, ints); level = λ e. grind (arith, ints) }

-- ---- a place on the line of a segment

-- p is on the line ab, and in its order between a and b: it is on the segment
pub on_by_order : (a b p : Place) → IsUpTo a p → IsUpTo p b → area_of a b p ≡ pos 0 → IsOnSegment a b p
on_by_order a b p from to flat =
    let left = from.across in
    let right = to.across in
    let x = Variable in
    let k = spot 0 in let m = spot 1 in let r = spot 2 in
    let start = by_multiples (numbers_of (a ∷ b ∷ p ∷ []) []) ((m.x ⊖ k.x) ⊗ (r.y ⊖ k.y) ≈ (m.y ⊖ k.y) ⊗ (r.x ⊖ k.x))
    ((Whole (pos 1) times (area_in k m r ≈ Whole (pos 0))) ∷ []) (flat, tt) refl in
    let end = by_multiples (numbers_of (a ∷ b ∷ p ∷ []) []) ((m.x ⊖ k.x) ⊗ (m.y ⊖ r.y) ≈ (m.y ⊖ k.y) ⊗ (m.x ⊖ r.x))
    ((Whole (negsuc 0) times (area_in k m r ≈ Whole (pos 0))) ∷ []) (flat, tt) refl in
    let up : IsBetween a.y b.y p.y =
    (elim (at_most_or_above (b.x -ℤ a.x) (pos 0)) [
      | inl short ↦ Rising (from.level (omega (arith, sums))) (to.level (omega (arith, sums)))
      | inr long ↦
          elim (at_most_or_above a.y b.y) [
            | inl rising ↦
                let s : pos 0 ≤ℤ ((b.y -ℤ a.y) *ℤ (p.x -ℤ a.x)) =
                times_nonnegative (b.y -ℤ a.y) (p.x -ℤ a.x) (omega (arith, sums)) (omega (arith, sums)) in
                let t : pos 0 ≤ℤ ((b.y -ℤ a.y) *ℤ (b.x -ℤ p.x)) =
                times_nonnegative (b.y -ℤ a.y) (b.x -ℤ p.x) (omega (arith, sums)) (omega (arith, sums)) in
                let u : pos 0 ≤ℤ (p.y -ℤ a.y) = nonnegative_from_times (b.x -ℤ a.x) (p.y -ℤ a.y) long (omega (arith, sums, start)) in
                let v : pos 0 ≤ℤ (b.y -ℤ p.y) = nonnegative_from_times (b.x -ℤ a.x) (b.y -ℤ p.y) long (omega (arith, sums, end)) in
                Rising (omega (arith, sums)) (omega (arith, sums))
            | inr falling ↦
                let s : ((p.x -ℤ a.x) *ℤ (b.y -ℤ a.y)) ≤ℤ pos 0 =
                nonnegative_times_nonpositive (p.x -ℤ a.x) (b.y -ℤ a.y) (omega (arith, sums)) (omega (arith, sums)) in
                let t : ((b.x -ℤ p.x) *ℤ (b.y -ℤ a.y)) ≤ℤ pos 0 =
                nonnegative_times_nonpositive (b.x -ℤ p.x) (b.y -ℤ a.y) (omega (arith, sums)) (omega (arith, sums)) in
                let u : (p.y -ℤ a.y) ≤ℤ pos 0 = nonpositive_from_times (b.x -ℤ a.x) (p.y -ℤ a.y) long
                (omega (arith, sums, start, *ℤ_comm (p.x -ℤ a.x) (b.y -ℤ a.y))) in
                let v : (b.y -ℤ p.y) ≤ℤ pos 0 = nonpositive_from_times (b.x -ℤ a.x) (b.y -ℤ p.y) long
                (omega (arith, sums, end, *ℤ_comm (b.x -ℤ p.x) (b.y -ℤ a.y))) in
                Falling (omega (arith, sums)) (omega (arith, sums))
          ]
    ]) in
    (on_segment_by_signs a b p).0 (flat, (Rising left right, up))

-- ---- two edges, the second not before the end of the first

-- on one axis: the parts of what is left out add up to nothing
left_out : (n s t v w a b : ℤ) → n *ℤ v +ℤ s *ℤ (w -ℤ v) ≡ n *ℤ a +ℤ t *ℤ (b -ℤ a)
    → ((n -ℤ s) *ℤ (w -ℤ v) +ℤ n *ℤ (a -ℤ w)) +ℤ t *ℤ (b -ℤ a) ≡ pos 0
left_out n s t v w a b e =
    let x = Variable in
    by_multiples (n ∷ s ∷ t ∷ v ∷ w ∷ a ∷ b ∷ []) (((x 0 ⊖ x 1) ⊗ (x 4 ⊖ x 3) ⊕ x 0 ⊗ (x 5 ⊖ x 4)) ⊕ x 2 ⊗ (x 6 ⊖ x 5) ≈ Whole (pos 0))
    ((Whole (negsuc 0) times (x 0 ⊗ x 3 ⊕ x 1 ⊗ (x 4 ⊖ x 3) ≈ x 0 ⊗ x 5 ⊕ x 2 ⊗ (x 6 ⊖ x 5))) ∷ []) (e, tt) refl

pub record Joined (v w a b : Place) (h : CommonPoint v w a b) : Type 0 where
  pub at_end : h.first ≡ h.denominator
  pub at_start : h.second ≡ pos 0
  pub one_place : w ≡ a

-- the parts on one axis that does not fall are nothing each
record NoneLeft (n s t v w a b : ℤ) : Type 0 where
  first : (n -ℤ s) *ℤ (w -ℤ v) ≡ pos 0
  between : n *ℤ (a -ℤ w) ≡ pos 0
  second : t *ℤ (b -ℤ a) ≡ pos 0

none_left : (n s t v w a b : ℤ) → pos 1 ≤ℤ n → s ≤ℤ n → pos 0 ≤ℤ t → v ≤ℤ w → w ≤ℤ a → a ≤ℤ b
    → n *ℤ v +ℤ s *ℤ (w -ℤ v) ≡ n *ℤ a +ℤ t *ℤ (b -ℤ a) → NoneLeft n s t v w a b
none_left n s t v w a b one high low vw wa ab e =
    let whole = left_out n s t v w a b e in
    let p : pos 0 ≤ℤ ((n -ℤ s) *ℤ (w -ℤ v)) = times_nonnegative (n -ℤ s) (w -ℤ v) (omega (arith, sums)) (omega (arith, sums)) in
    let q : pos 0 ≤ℤ (n *ℤ (a -ℤ w)) = times_nonnegative n (a -ℤ w) (omega (arith, sums)) (omega (arith, sums)) in
    let r : pos 0 ≤ℤ (t *ℤ (b -ℤ a)) = times_nonnegative t (b -ℤ a) (omega (arith, sums)) (omega (arith, sums)) in
    record { first = omega (arith, sums, whole); between = omega (arith, sums, whole); second = omega (arith, sums, whole) }

zero_factor : (k z : ℤ) → pos 0 <ℤ z → k *ℤ z ≡ pos 0 → k ≡ pos 0
zero_factor k z p e = zero_from_times z k p (*ℤ_comm z k ∙ e)

pub no_times : (k z : ℤ) → k ≡ pos 0 → k *ℤ z ≡ pos 0
no_times k z e = ap (λ x. x *ℤ z) e ∙ zero-*ℤ z

-- what is left of the way across, times the way up
pub spare : (k : ℤ) (v w : Place) → IsBefore v w → pos 0 ≤ℤ k → k *ℤ (w.x -ℤ v.x) ≡ pos 0
    → (pos 0 ≤ℤ (k *ℤ (w.y -ℤ v.y))) × (k *ℤ (w.y -ℤ v.y) ≡ pos 0 → k ≡ pos 0)
spare k v w (Left h) low e =
    let z : k ≡ pos 0 = zero_factor k (w.x -ℤ v.x) (omega (arith, sums)) e in
    let y : k *ℤ (w.y -ℤ v.y) ≡ pos 0 = no_times k (w.y -ℤ v.y) z in
    (omega (arith, sums), λ f. z)
spare k v w (Below g h) low e = (
  times_nonnegative k (w.y -ℤ v.y) low (omega (arith, sums)),
  λ f.
      zero_factor k (w.y -ℤ v.y) (omega (arith, sums)) f,
)

-- the second edge does not come before the end of the first: a common point joins the two
pub after_meets : (v w a b : Place) → IsBefore v w → IsUpTo w a → IsBefore a b → (h : CommonPoint v w a b) → Joined v w a b h
after_meets v w a b vw wa ab h =
    let one = h.whole in let high = h.first_high in let low = h.second_low in
    let vwx : v.x ≤ℤ w.x = (up_to v w vw).across in
    let abx : a.x ≤ℤ b.x = (up_to a b ab).across in
    let xs : NoneLeft h.denominator h.first h.second v.x w.x a.x b.x =
    none_left h.denominator h.first h.second v.x w.x a.x b.x h.whole h.first_high h.second_low vwx wa.across abx h.across in
    let same : a.x -ℤ w.x ≡ pos 0 = zero_from_times h.denominator (a.x -ℤ w.x) (omega (arith, sums)) xs.between in
    let wy : w.y ≤ℤ a.y = wa.level (omega (arith, sums)) in
    let p = spare (h.denominator -ℤ h.first) v w vw (omega (arith, sums)) xs.first in
    let q = spare h.second a b ab h.second_low xs.second in
    let r : pos 0 ≤ℤ (h.denominator *ℤ (a.y -ℤ w.y)) = times_nonnegative h.denominator (a.y -ℤ w.y) (omega (arith, sums))
    (omega (arith, sums)) in
    let whole = left_out h.denominator h.first h.second v.y w.y a.y b.y h.up in
    let p0 = p.0 in let q0 = q.0 in
    let first : h.denominator -ℤ h.first ≡ pos 0 = p.1 (omega (arith, sums, whole)) in
    let second : h.second ≡ pos 0 = q.1 (omega (arith, sums, whole)) in
    let up : a.y -ℤ w.y ≡ pos 0 = zero_from_times h.denominator (a.y -ℤ w.y) (omega (arith, sums)) (omega (arith, sums, whole)) in
    record { at_end = omega (arith, sums); at_start = second; one_place = same_place w a (omega (arith, sums)) (omega (arith, sums)) }
