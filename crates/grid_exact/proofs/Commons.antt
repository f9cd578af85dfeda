-- Common points of two segments: read backwards, at ends, and where an end is shared.
--
-- Where a proof computes with the fractions of a common point that it made, as `pos 0` of `common_at_start`, the function
-- that makes it is an `abbrev`.
use Rattle.std.proofs.Common.{◌≡◌, ◌⊎◌, inl, inr, [], ◌∷◌, ℤ, pos, negsuc, ◌+ℤ◌, ◌-ℤ◌, ◌*ℤ◌, ◌≤ℤ◌, refl, sym, ap, subst, ◌∙◌, arith}
use Rattle.std.proofs.lemmas.Int.{ints}
use Rattle.grid_exact.specs.Geometry.{Place, IsOnSegment, CommonPoint}
use Rattle.grid_exact.specs.Segments.{SameEnds}
use Rattle.grid_exact.proofs.WholeLaws.{sums}
use Rattle.grid_exact.proofs.Signs.{Negative, Zero, Positive, sign_of, at_most_or_above, zero_from_times}
use Rattle.grid_exact.proofs.Segments.{start_is_on}
use Rattle.grid_exact.proofs.Polynomial.{Whole, ◌⊕◌, ◌⊖◌, ◌⊗◌, ◌≈◌, ◌times◌, Variable, by_multiples}

abbrev pub place_at : ℤ → ℤ → Place
place_at x y = record { x = x; y = y }

pub same_place : (a b : Place) → a.x ≡ b.x → a.y ≡ b.y → a ≡ b
same_place a b e f = ap (λ (x : ℤ). place_at x a.y) e ∙ ap (λ (y : ℤ). place_at b.x y) f

pub across_of : (a b : Place) → a ≡ b → a.x ≡ b.x
across_of a b e = ap (λ (p : Place). p.x) e

pub up_of : (a b : Place) → a ≡ b → a.y ≡ b.y
up_of a b e = ap (λ (p : Place). p.y) e

-- ---- points at the ends of a segment

-- on one axis: none of the way, and all of it
none_of_way : (n s a b v : ℤ) → pos 1 ≤ℤ n → s ≡ pos 0 → n *ℤ v ≡ n *ℤ a +ℤ s *ℤ (b -ℤ a) → v ≡ a
none_of_way n s a b v one e place =
    let x = Variable in
    let gap : n *ℤ (v -ℤ a) ≡ pos 0 = by_multiples (n ∷ s ∷ a ∷ b ∷ v ∷ []) (x 0 ⊗ (x 4 ⊖ x 2) ≈ Whole (pos 0))
    ((Whole (pos 1) times (x 0 ⊗ x 4 ≈ x 0 ⊗ x 2 ⊕ x 1 ⊗ (x 3 ⊖ x 2))) ∷ ((x 3 ⊖ x 2) times (x 1 ≈ Whole (pos 0))) ∷ [])
    (place, (e, tt)) refl in
    let z : v -ℤ a ≡ pos 0 = zero_from_times n (v -ℤ a) (omega (arith, sums)) gap in
    omega (arith, sums)

all_of_way : (n s a b v : ℤ) → pos 1 ≤ℤ n → s ≡ n → n *ℤ v ≡ n *ℤ a +ℤ s *ℤ (b -ℤ a) → v ≡ b
all_of_way n s a b v one e place =
    let x = Variable in
    let gap : n *ℤ (v -ℤ b) ≡ pos 0 = by_multiples (n ∷ s ∷ a ∷ b ∷ v ∷ []) (x 0 ⊗ (x 4 ⊖ x 3) ≈ Whole (pos 0))
    ((Whole (pos 1) times (x 0 ⊗ x 4 ≈ x 0 ⊗ x 2 ⊕ x 1 ⊗ (x 3 ⊖ x 2))) ∷ ((x 3 ⊖ x 2) times (x 1 ≈ x 0)) ∷ []) (place, (e, tt)) refl in
    let z : v -ℤ b ≡ pos 0 = zero_from_times n (v -ℤ b) (omega (arith, sums)) gap in
    omega (arith, sums)

pub at_start : (a b p : Place) (h : IsOnSegment a b p) → h.numerator ≡ pos 0 → p ≡ a
at_start a b p h e = same_place p a (none_of_way h.denominator h.numerator a.x b.x p.x h.whole e h.across)
    (none_of_way h.denominator h.numerator a.y b.y p.y h.whole e h.up)

pub at_end : (a b p : Place) (h : IsOnSegment a b p) → h.numerator ≡ h.denominator → p ≡ b
at_end a b p h e = same_place p b (all_of_way h.denominator h.numerator a.x b.x p.x h.whole e h.across)
    (all_of_way h.denominator h.numerator a.y b.y p.y h.whole e h.up)

turned_way : (n s a b v : ℤ) → n *ℤ v ≡ n *ℤ a +ℤ s *ℤ (b -ℤ a) → n *ℤ v ≡ n *ℤ b +ℤ (n -ℤ s) *ℤ (a -ℤ b)
turned_way n s a b v place = let x = Variable in by_multiples (n ∷ s ∷ a ∷ b ∷ v ∷ []) (x 0 ⊗ x 4 ≈ x 0 ⊗ x 3 ⊕ (x 0 ⊖ x 1) ⊗ (x 2 ⊖ x 3))
    ((Whole (pos 1) times (x 0 ⊗ x 4 ≈ x 0 ⊗ x 2 ⊕ x 1 ⊗ (x 3 ⊖ x 2))) ∷ []) (place, tt) refl

pub on_turned : (a b p : Place) → IsOnSegment a b p → IsOnSegment b a p
on_turned a b p h =
    let one = h.whole in let low = h.from_start in let high = h.to_end in
    record {
      denominator = h.denominator;
      numerator = h.denominator -ℤ h.numerator;
      whole = h.whole;
      from_start = omega (arith, sums);
      to_end = omega (arith, sums);
      across = turned_way h.denominator h.numerator a.x b.x p.x h.across;
      up = turned_way h.denominator h.numerator a.y b.y p.y h.up;
    }

pub start_on : (a b p : Place) → p ≡ a → IsOnSegment a b p
start_on a b p e = start_is_on a b p (ap (λ (v : Place). v.x) e) (ap (λ (v : Place). v.y) e)

pub end_is_on : (a b p : Place) → p ≡ b → IsOnSegment a b p
end_is_on a b p e = on_turned b a p (start_is_on b a p (ap (λ (v : Place). v.x) e) (ap (λ (v : Place). v.y) e))

-- ---- a common point read with the segments exchanged or backwards

abbrev pub common_swapped : (a b c d : Place) → CommonPoint c d a b → CommonPoint a b c d
common_swapped a b c d h =
    record {
      denominator = h.denominator;
      first = h.second;
      second = h.first;
      whole = h.whole;
      first_low = h.second_low;
      first_high = h.second_high;
      second_low = h.first_low;
      second_high = h.first_high;
      across = sym h.across;
      up = sym h.up;
    }

pub rest_low : (n s : ℤ) → s ≤ℤ n → pos 0 ≤ℤ (n -ℤ s)
rest_low n s h = omega (arith, sums)

pub rest_high : (n s : ℤ) → pos 0 ≤ℤ s → (n -ℤ s) ≤ℤ n
rest_high n s h = omega (arith, sums)

pub first_way : (n s t a b c d : ℤ) → n *ℤ a +ℤ s *ℤ (b -ℤ a) ≡ n *ℤ c +ℤ t *ℤ (d -ℤ c)
    → n *ℤ b +ℤ (n -ℤ s) *ℤ (a -ℤ b) ≡ n *ℤ c +ℤ t *ℤ (d -ℤ c)
first_way n s t a b c d e =
    let x = Variable in
    by_multiples (n ∷ s ∷ t ∷ a ∷ b ∷ c ∷ d ∷ []) (x 0 ⊗ x 4 ⊕ (x 0 ⊖ x 1) ⊗ (x 3 ⊖ x 4) ≈ x 0 ⊗ x 5 ⊕ x 2 ⊗ (x 6 ⊖ x 5))
    ((Whole (pos 1) times (x 0 ⊗ x 3 ⊕ x 1 ⊗ (x 4 ⊖ x 3) ≈ x 0 ⊗ x 5 ⊕ x 2 ⊗ (x 6 ⊖ x 5))) ∷ []) (e, tt) refl

abbrev pub first_turned : (a b c d : Place) → CommonPoint a b c d → CommonPoint b a c d
first_turned a b c d h =
    record {
      denominator = h.denominator;
      first = h.denominator -ℤ h.first;
      second = h.second;
      whole = h.whole;
      first_low = rest_low h.denominator h.first h.first_high;
      first_high = rest_high h.denominator h.first h.first_low;
      second_low = h.second_low;
      second_high = h.second_high;
      across = first_way h.denominator h.first h.second a.x b.x c.x d.x h.across;
      up = first_way h.denominator h.first h.second a.y b.y c.y d.y h.up;
    }

abbrev pub second_turned : (a b c d : Place) → CommonPoint a b c d → CommonPoint a b d c
second_turned a b c d h =
    record {
      denominator = h.denominator;
      first = h.first;
      second = h.denominator -ℤ h.second;
      whole = h.whole;
      first_low = h.first_low;
      first_high = h.first_high;
      second_low = rest_low h.denominator h.second h.second_high;
      second_high = rest_high h.denominator h.second h.second_low;
      across = sym (first_way h.denominator h.second h.first c.x d.x a.x b.x (sym h.across));
      up = sym (first_way h.denominator h.second h.first c.y d.y a.y b.y (sym h.up));
    }

-- ---- a common point where an end of one segment lies on the other

pub start_way : (n s a b c d : ℤ) → n *ℤ a ≡ n *ℤ c +ℤ s *ℤ (d -ℤ c) → n *ℤ a +ℤ pos 0 *ℤ (b -ℤ a) ≡ n *ℤ c +ℤ s *ℤ (d -ℤ c)
start_way n s a b c d place = let x = Variable in by_multiples (n ∷ s ∷ a ∷ b ∷ c ∷ d ∷ [])
    (x 0 ⊗ x 2 ⊕ Whole (pos 0) ⊗ (x 3 ⊖ x 2) ≈ x 0 ⊗ x 4 ⊕ x 1 ⊗ (x 5 ⊖ x 4))
    ((Whole (pos 1) times (x 0 ⊗ x 2 ≈ x 0 ⊗ x 4 ⊕ x 1 ⊗ (x 5 ⊖ x 4))) ∷ []) (place, tt) refl

pub end_way : (n s a b c d : ℤ) → n *ℤ b ≡ n *ℤ c +ℤ s *ℤ (d -ℤ c) → n *ℤ a +ℤ n *ℤ (b -ℤ a) ≡ n *ℤ c +ℤ s *ℤ (d -ℤ c)
end_way n s a b c d place = let x = Variable in by_multiples (n ∷ s ∷ a ∷ b ∷ c ∷ d ∷ [])
    (x 0 ⊗ x 2 ⊕ x 0 ⊗ (x 3 ⊖ x 2) ≈ x 0 ⊗ x 4 ⊕ x 1 ⊗ (x 5 ⊖ x 4)) ((Whole (pos 1) times (x 0 ⊗ x 3 ≈ x 0 ⊗ x 4 ⊕ x 1 ⊗ (x 5 ⊖ x 4))) ∷ [])
    (place, tt) refl

pub none_low : pos 0 ≤ℤ pos 0
none_low = omega (arith, ints)

pub none_below_one : pos 0 ≤ℤ pos 1
none_below_one = omega (arith, ints)

pub itself : (n : ℤ) → n ≤ℤ n
itself n = omega (arith, ints)

pub nonnegative_by_one : (n : ℤ) → pos 1 ≤ℤ n → pos 0 ≤ℤ n
nonnegative_by_one n h = omega (arith, ints)

abbrev pub common_at_start : (a b c d : Place) → IsOnSegment c d a → CommonPoint a b c d
common_at_start a b c d h =
    record {
      denominator = h.denominator;
      first = pos 0;
      second = h.numerator;
      whole = h.whole;
      first_low = none_low;
      first_high = nonnegative_by_one h.denominator h.whole;
      second_low = h.from_start;
      second_high = h.to_end;
      across = start_way h.denominator h.numerator a.x b.x c.x d.x h.across;
      up = start_way h.denominator h.numerator a.y b.y c.y d.y h.up;
    }

abbrev pub common_at_end : (a b c d : Place) → IsOnSegment c d b → CommonPoint a b c d
common_at_end a b c d h =
    record {
      denominator = h.denominator;
      first = h.denominator;
      second = h.numerator;
      whole = h.whole;
      first_low = nonnegative_by_one h.denominator h.whole;
      first_high = itself h.denominator;
      second_low = h.from_start;
      second_high = h.to_end;
      across = end_way h.denominator h.numerator a.x b.x c.x d.x h.across;
      up = end_way h.denominator h.numerator a.y b.y c.y d.y h.up;
    }

pub none_way : (n s t a b c d : ℤ) → s ≡ pos 0 → n *ℤ a +ℤ s *ℤ (b -ℤ a) ≡ n *ℤ c +ℤ t *ℤ (d -ℤ c) → n *ℤ a ≡ n *ℤ c +ℤ t *ℤ (d -ℤ c)
none_way n s t a b c d e place = let x = Variable in by_multiples (n ∷ s ∷ t ∷ a ∷ b ∷ c ∷ d ∷ [])
    (x 0 ⊗ x 3 ≈ x 0 ⊗ x 5 ⊕ x 2 ⊗ (x 6 ⊖ x 5)) ((Whole (pos 1) times (x 0 ⊗ x 3 ⊕ x 1 ⊗ (x 4 ⊖ x 3) ≈ x 0 ⊗ x 5 ⊕ x 2 ⊗ (x 6 ⊖ x 5)))
    ∷ ((x 3 ⊖ x 4) times (x 1 ≈ Whole (pos 0))) ∷ []) (place, (e, tt)) refl

pub all_way : (n s t a b c d : ℤ) → s ≡ n → n *ℤ a +ℤ s *ℤ (b -ℤ a) ≡ n *ℤ c +ℤ t *ℤ (d -ℤ c) → n *ℤ b ≡ n *ℤ c +ℤ t *ℤ (d -ℤ c)
all_way n s t a b c d e place = let x = Variable in by_multiples (n ∷ s ∷ t ∷ a ∷ b ∷ c ∷ d ∷ [])
    (x 0 ⊗ x 4 ≈ x 0 ⊗ x 5 ⊕ x 2 ⊗ (x 6 ⊖ x 5)) ((Whole (pos 1) times (x 0 ⊗ x 3 ⊕ x 1 ⊗ (x 4 ⊖ x 3) ≈ x 0 ⊗ x 5 ⊕ x 2 ⊗ (x 6 ⊖ x 5)))
    ∷ ((x 3 ⊖ x 4) times (x 1 ≈ x 0)) ∷ []) (place, (e, tt)) refl

-- and back: a common point that is an end of the first segment lies on the second
abbrev pub on_second_at_start : (a b c d : Place) (h : CommonPoint a b c d) → h.first ≡ pos 0 → IsOnSegment c d a
on_second_at_start a b c d h e =
    record {
      denominator = h.denominator;
      numerator = h.second;
      whole = h.whole;
      from_start = h.second_low;
      to_end = h.second_high;
      across = none_way h.denominator h.first h.second a.x b.x c.x d.x e h.across;
      up = none_way h.denominator h.first h.second a.y b.y c.y d.y e h.up;
    }

abbrev pub on_second_at_end : (a b c d : Place) (h : CommonPoint a b c d) → h.first ≡ h.denominator → IsOnSegment c d b
on_second_at_end a b c d h e =
    record {
      denominator = h.denominator;
      numerator = h.second;
      whole = h.whole;
      from_start = h.second_low;
      to_end = h.second_high;
      across = all_way h.denominator h.first h.second a.x b.x c.x d.x e h.across;
      up = all_way h.denominator h.first h.second a.y b.y c.y d.y e h.up;
    }

-- ---- a common point where two ends are one place

-- on one axis: one end of two edges
pub starts_way : (a b c d : ℤ) → a ≡ c → pos 1 *ℤ a +ℤ pos 0 *ℤ (b -ℤ a) ≡ pos 1 *ℤ c +ℤ pos 0 *ℤ (d -ℤ c)
starts_way a b c d e = let x = Variable in by_multiples (a ∷ b ∷ c ∷ d ∷ [])
    (Whole (pos 1) ⊗ x 0 ⊕ Whole (pos 0) ⊗ (x 1 ⊖ x 0) ≈ Whole (pos 1) ⊗ x 2 ⊕ Whole (pos 0) ⊗ (x 3 ⊖ x 2))
    ((Whole (pos 1) times (x 0 ≈ x 2)) ∷ []) (e, tt) refl

pub start_end_way : (a b c d : ℤ) → a ≡ d → pos 1 *ℤ a +ℤ pos 0 *ℤ (b -ℤ a) ≡ pos 1 *ℤ c +ℤ pos 1 *ℤ (d -ℤ c)
start_end_way a b c d e = let x = Variable in by_multiples (a ∷ b ∷ c ∷ d ∷ [])
    (Whole (pos 1) ⊗ x 0 ⊕ Whole (pos 0) ⊗ (x 1 ⊖ x 0) ≈ Whole (pos 1) ⊗ x 2 ⊕ Whole (pos 1) ⊗ (x 3 ⊖ x 2))
    ((Whole (pos 1) times (x 0 ≈ x 3)) ∷ []) (e, tt) refl

pub end_start_way : (a b c d : ℤ) → b ≡ c → pos 1 *ℤ a +ℤ pos 1 *ℤ (b -ℤ a) ≡ pos 1 *ℤ c +ℤ pos 0 *ℤ (d -ℤ c)
end_start_way a b c d e = let x = Variable in by_multiples (a ∷ b ∷ c ∷ d ∷ [])
    (Whole (pos 1) ⊗ x 0 ⊕ Whole (pos 1) ⊗ (x 1 ⊖ x 0) ≈ Whole (pos 1) ⊗ x 2 ⊕ Whole (pos 0) ⊗ (x 3 ⊖ x 2))
    ((Whole (pos 1) times (x 1 ≈ x 2)) ∷ []) (e, tt) refl

pub ends_way : (a b c d : ℤ) → b ≡ d → pos 1 *ℤ a +ℤ pos 1 *ℤ (b -ℤ a) ≡ pos 1 *ℤ c +ℤ pos 1 *ℤ (d -ℤ c)
ends_way a b c d e = let x = Variable in by_multiples (a ∷ b ∷ c ∷ d ∷ [])
    (Whole (pos 1) ⊗ x 0 ⊕ Whole (pos 1) ⊗ (x 1 ⊖ x 0) ≈ Whole (pos 1) ⊗ x 2 ⊕ Whole (pos 1) ⊗ (x 3 ⊖ x 2))
    ((Whole (pos 1) times (x 1 ≈ x 3)) ∷ []) (e, tt) refl

-- the start of both
abbrev pub common_starts : (a b c d : Place) → a ≡ c → CommonPoint a b c d
common_starts a b c d same =
    record {
      denominator = pos 1;
      first = pos 0;
      second = pos 0;
      whole = itself (pos 1);
      first_low = none_low;
      first_high = none_below_one;
      second_low = none_low;
      second_high = none_below_one;
      across = starts_way a.x b.x c.x d.x (across_of a c same);
      up = starts_way a.y b.y c.y d.y (up_of a c same);
    }

-- the start of the first and the end of the second
abbrev pub common_start_and_end : (a b c d : Place) → a ≡ d → CommonPoint a b c d
common_start_and_end a b c d same =
    record {
      denominator = pos 1;
      first = pos 0;
      second = pos 1;
      whole = itself (pos 1);
      first_low = none_low;
      first_high = none_below_one;
      second_low = none_below_one;
      second_high = itself (pos 1);
      across = start_end_way a.x b.x c.x d.x (across_of a d same);
      up = start_end_way a.y b.y c.y d.y (up_of a d same);
    }

-- the end of the first and the start of the second
abbrev pub common_end_and_start : (a b c d : Place) → b ≡ c → CommonPoint a b c d
common_end_and_start a b c d same =
    record {
      denominator = pos 1;
      first = pos 1;
      second = pos 0;
      whole = itself (pos 1);
      first_low = none_below_one;
      first_high = itself (pos 1);
      second_low = none_low;
      second_high = none_below_one;
      across = end_start_way a.x b.x c.x d.x (across_of b c same);
      up = end_start_way a.y b.y c.y d.y (up_of b c same);
    }

-- the end of both
abbrev pub common_ends : (a b c d : Place) → b ≡ d → CommonPoint a b c d
common_ends a b c d same =
    record {
      denominator = pos 1;
      first = pos 1;
      second = pos 1;
      whole = itself (pos 1);
      first_low = none_below_one;
      first_high = itself (pos 1);
      second_low = none_below_one;
      second_high = itself (pos 1);
      across = ends_way a.x b.x c.x d.x (across_of b d same);
      up = ends_way a.y b.y c.y d.y (up_of b d same);
    }

-- and back
one_start_way : (n s t a b c d : ℤ) → pos 1 ≤ℤ n → s ≡ pos 0 → t ≡ pos 0 → n *ℤ a +ℤ s *ℤ (b -ℤ a) ≡ n *ℤ c +ℤ t *ℤ (d -ℤ c) → a ≡ c
one_start_way n s t a b c d one e f h =
    let x = Variable in
    let gap : n *ℤ (a -ℤ c) ≡ pos 0 = by_multiples (n ∷ s ∷ t ∷ a ∷ b ∷ c ∷ d ∷ []) (x 0 ⊗ (x 3 ⊖ x 5) ≈ Whole (pos 0))
    ((Whole (pos 1) times (x 0 ⊗ x 3 ⊕ x 1 ⊗ (x 4 ⊖ x 3) ≈ x 0 ⊗ x 5 ⊕ x 2 ⊗ (x 6 ⊖ x 5))) ∷ ((x 3 ⊖ x 4) times (x 1 ≈ Whole (pos 0)))
    ∷ ((x 6 ⊖ x 5) times (x 2 ≈ Whole (pos 0))) ∷ []) (h, (e, (f, tt))) refl in
    let z : a -ℤ c ≡ pos 0 = zero_from_times n (a -ℤ c) (omega (arith, sums)) gap in
    omega (arith, sums)

pub starts_are_one : (a b c d : Place) (h : CommonPoint a b c d) → h.first ≡ pos 0 → h.second ≡ pos 0 → a ≡ c
starts_are_one a b c d h e f = same_place a c (one_start_way h.denominator h.first h.second a.x b.x c.x d.x h.whole e f h.across)
    (one_start_way h.denominator h.first h.second a.y b.y c.y d.y h.whole e f h.up)

none_of_rest : (n s : ℤ) → s ≡ n → n -ℤ s ≡ pos 0
none_of_rest n s e = omega (arith, sums)

pub start_is_end : (a b c d : Place) (h : CommonPoint a b c d) → h.first ≡ pos 0 → h.second ≡ h.denominator → a ≡ d
start_is_end a b c d h e f = starts_are_one a b d c (second_turned a b c d h) e (none_of_rest h.denominator h.second f)

pub end_is_start : (a b c d : Place) (h : CommonPoint a b c d) → h.first ≡ h.denominator → h.second ≡ pos 0 → b ≡ c
end_is_start a b c d h e f = starts_are_one b a c d (first_turned a b c d h) (none_of_rest h.denominator h.first e) f

pub ends_are_one : (a b c d : Place) (h : CommonPoint a b c d) → h.first ≡ h.denominator → h.second ≡ h.denominator → b ≡ d
ends_are_one a b c d h e f = starts_are_one b a d c (first_turned a b d c (second_turned a b c d h)) (none_of_rest h.denominator h.first e)
    (none_of_rest h.denominator h.second f)

-- ---- segments that share an end

along_way : (n s t q x c y : ℤ) → c ≡ q → n *ℤ q +ℤ s *ℤ (x -ℤ q) ≡ n *ℤ c +ℤ t *ℤ (y -ℤ c) → s *ℤ x ≡ s *ℤ q +ℤ t *ℤ (y -ℤ q)
along_way n s t q x c y same e =
    let v = Variable in
    by_multiples (n ∷ s ∷ t ∷ q ∷ x ∷ c ∷ y ∷ []) (v 1 ⊗ v 4 ≈ v 1 ⊗ v 3 ⊕ v 2 ⊗ (v 6 ⊖ v 3))
    ((Whole (pos 1) times (v 0 ⊗ v 3 ⊕ v 1 ⊗ (v 4 ⊖ v 3) ≈ v 0 ⊗ v 5 ⊕ v 2 ⊗ (v 6 ⊖ v 5))) ∷ ((v 0 ⊖ v 2) times (v 5 ≈ v 3)) ∷ [])
    (e, (same, tt)) refl

other_way : (n s t q x c y : ℤ) → c ≡ q → n *ℤ q +ℤ s *ℤ (x -ℤ q) ≡ n *ℤ c +ℤ t *ℤ (y -ℤ c) → t *ℤ y ≡ t *ℤ q +ℤ s *ℤ (x -ℤ q)
other_way n s t q x c y same e =
    let v = Variable in
    by_multiples (n ∷ s ∷ t ∷ q ∷ x ∷ c ∷ y ∷ []) (v 2 ⊗ v 6 ≈ v 2 ⊗ v 3 ⊕ v 1 ⊗ (v 4 ⊖ v 3))
    ((Whole (negsuc 0) times (v 0 ⊗ v 3 ⊕ v 1 ⊗ (v 4 ⊖ v 3) ≈ v 0 ⊗ v 5 ⊕ v 2 ⊗ (v 6 ⊖ v 5))) ∷ ((v 2 ⊖ v 0) times (v 5 ≈ v 3)) ∷ [])
    (e, (same, tt)) refl

pub record AtBothStarts (a b c d : Place) (h : CommonPoint a b c d) : Type 0 where
  pub first : h.first ≡ pos 0
  pub second : h.second ≡ pos 0

-- Two segments from one place, neither of whose other ends lies on the other, have no other common point.
pub only_shared_start : (q x c y : Place) → c ≡ q → ¬ (IsOnSegment q x y) → ¬ (IsOnSegment c y x) → (h : CommonPoint q x c y)
    → AtBothStarts q x c y h
only_shared_start q x c y same off_first off_second h =
    let low = h.first_low in let low' = h.second_low in
    let ex : c.x ≡ q.x = ap (λ (v : Place). v.x) same in
    let ey : c.y ≡ q.y = ap (λ (v : Place). v.y) same in
    elim (at_most_or_above h.first h.second) [
      | inl more ↦
          elim (sign_of h.second) [
            | Negative k ↦ absurd (omega (arith, sums))
            | Zero k ↦ record { first = omega (arith, sums); second = k }
            | Positive k ↦
                absurd
                (off_first
                record {
                  denominator = h.second;
                  numerator = h.first;
                  whole = omega (arith, sums);
                  from_start = h.first_low;
                  to_end = more;
                  across = other_way h.denominator h.first h.second q.x x.x c.x y.x ex h.across;
                  up = other_way h.denominator h.first h.second q.y x.y c.y y.y ey h.up;
                })
          ]
      | inr more ↦
          absurd
          (off_second
          (subst (λ (v : Place). IsOnSegment v y x) (sym same)
          record {
            denominator = h.first;
            numerator = h.second;
            whole = omega (arith, sums);
            from_start = h.second_low;
            to_end = omega (arith, sums);
            across = along_way h.denominator h.first h.second q.x x.x c.x y.x ex h.across;
            up = along_way h.denominator h.first h.second q.y x.y c.y y.y ey h.up;
          }))
    ]

-- the common point is an end of both
pub data AtEnds (denominator first second : ℤ) : Type 0 where
  Starts : first ≡ pos 0 → second ≡ pos 0 → AtEnds denominator first second
  StartAndEnd : first ≡ pos 0 → second ≡ denominator → AtEnds denominator first second
  EndAndStart : first ≡ denominator → second ≡ pos 0 → AtEnds denominator first second
  Ends : first ≡ denominator → second ≡ denominator → AtEnds denominator first second

all_by_rest : (n s : ℤ) → n -ℤ s ≡ pos 0 → s ≡ n
all_by_rest n s e = omega (arith, sums)

-- where p stands to the segment vu
pub data Standing (v u p : Place) : Type 0 where
  AtStart : p ≡ v → Standing v u p
  AtEnd : p ≡ u → Standing v u p
  Off : ¬ (IsOnSegment v u p) → Standing v u p

-- The segments vu and cd, which are not one segment: if each end that lies on the other segment is an end of it, and they have no common
-- point where they share no end, then each common point is an end of both.
pub meet_at_ends : (v u c d : Place) → ¬ (v ≡ u) → ¬ (c ≡ d) → (IsOnSegment c d v → (v ≡ c) ⊎ (v ≡ d))
    → (IsOnSegment c d u → (u ≡ c) ⊎ (u ≡ d)) → Standing v u c → Standing v u d → ¬ (SameEnds v u c d)
    → (¬ (IsOnSegment v u c) → ¬ (IsOnSegment v u d) → ¬ (CommonPoint v u c d)) → (h : CommonPoint v u c d)
    → AtEnds h.denominator h.first h.second
meet_at_ends v u c d vu cd on_v on_u (AtStart e) (AtStart f) other apart h = absurd (cd (e ∙ sym f))
meet_at_ends v u c d vu cd on_v on_u (AtStart e) (AtEnd f) other apart h = absurd (other (inl (sym e, sym f)))
meet_at_ends v u c d vu cd on_v on_u (AtStart e) (Off f) other apart h =
    let r : AtBothStarts v u c d h = only_shared_start v u c d e f (λ on.
    elim (on_u on) [ inl k ↦ vu (sym (k ∙ e)) | inr k ↦ f (end_is_on v u d (sym k)) ]) h in
    Starts r.first r.second
meet_at_ends v u c d vu cd on_v on_u (AtEnd e) (AtStart f) other apart h = absurd (other (inr (sym f, sym e)))
meet_at_ends v u c d vu cd on_v on_u (AtEnd e) (AtEnd f) other apart h = absurd (cd (e ∙ sym f))
meet_at_ends v u c d vu cd on_v on_u (AtEnd e) (Off f) other apart h =
    let r : AtBothStarts u v c d (first_turned v u c d h) = only_shared_start u v c d e (λ on. f (on_turned u v d on)) (λ on.
    elim (on_v on) [ inl k ↦ vu (k ∙ e) | inr k ↦ f (start_on v u d (sym k)) ]) (first_turned v u c d h) in
    EndAndStart (all_by_rest h.denominator h.first r.first) r.second
meet_at_ends v u c d vu cd on_v on_u (Off e) (AtStart f) other apart h =
    let r : AtBothStarts v u d c (second_turned v u c d h) = only_shared_start v u d c f e (λ on.
    elim (on_u (on_turned d c u on)) [ inl k ↦ e (end_is_on v u c (sym k)) | inr k ↦ vu (sym (k ∙ f)) ]) (second_turned v u c d h) in
    StartAndEnd r.first (all_by_rest h.denominator h.second r.second)
meet_at_ends v u c d vu cd on_v on_u (Off e) (AtEnd f) other apart h =
    let r : AtBothStarts u v d c (first_turned v u d c (second_turned v u c d h)) =
    only_shared_start u v d c f (λ on. e (on_turned u v c on)) (λ on.
    elim (on_v (on_turned d c v on)) [ inl k ↦ e (start_on v u c (sym k)) | inr k ↦ vu (k ∙ f) ])
    (first_turned v u d c (second_turned v u c d h)) in
    Ends (all_by_rest h.denominator h.first r.first) (all_by_rest h.denominator h.second r.second)
meet_at_ends v u c d vu cd on_v on_u (Off e) (Off f) other apart h = absurd (apart e f h)
