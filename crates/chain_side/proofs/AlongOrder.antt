-- The order along a chain is strict and total, and a place that is past both ends of an edge is not on it.
use Rattle.std.proofs.Common.{◌≡◌, Bool, true, false, [], ◌∷◌, ℤ, pos, negsuc, ◌+ℤ◌, ◌-ℤ◌, ◌*ℤ◌, ◌≤ℤ◌, refl, ap, arith}
use Rattle.grid_exact.specs.Geometry.{Place, turned, area_of, IsBefore, IsOnSegment}
use Rattle.grid_exact.specs.Spans.{IsUpTo}
use Rattle.grid_exact.specs.declared.frame.Frame.{Frame}
use Rattle.grid_exact.specs.declared.frame.Frame.TheVariants.{Plain, Turned}
use Rattle.grid_exact.proofs.WholeLaws.{sums}
use Rattle.grid_exact.proofs.Signs.{times_nonnegative}
use Rattle.grid_exact.proofs.Polynomial.{Whole, ◌⊕◌, ◌⊖◌, ◌⊗◌, ◌≈◌, ◌times◌, Variable, by_multiples}
use Rattle.grid_exact.proofs.Commons.{on_turned}
use Rattle.grid_exact.proofs.Areas.{area_turned, area_of-turned}
use Rattle.grid_exact.proofs.Orders.{Before, Same, After, compared, then_before, not_both_ways, up_to, up_to_same, on_by_order, spare}
use Rattle.chain_side.specs.Along.{IsAlong}

-- how a stands to b along a chain
pub data ComparedAlong (frame : Frame) (rising : Bool) (a b : Place) : Type 0 where
  Earlier : IsAlong frame rising a b → ComparedAlong frame rising a b
  There : a ≡ b → ComparedAlong frame rising a b
  Later : IsAlong frame rising b a → ComparedAlong frame rising a b

turned_back : (a b : Place) → turned a ≡ turned b → a ≡ b
turned_back a b e = ap turned e

pub compared_along : (frame : Frame) (rising : Bool) (a b : Place) → ComparedAlong frame rising a b
compared_along Plain true a b = elim (compared a b) [ Before h ↦ Earlier h | Same e ↦ There e | After h ↦ Later h ]
compared_along Plain false a b = elim (compared a b) [ Before h ↦ Later h | Same e ↦ There e | After h ↦ Earlier h ]
compared_along Turned true a b = elim (compared (turned a) (turned b)) [
  | Before h ↦ Earlier h
  | Same e ↦ There (turned_back a b e)
  | After h ↦ Later h
]
compared_along Turned false a b = elim (compared (turned a) (turned b)) [
  | Before h ↦ Later h
  | Same e ↦ There (turned_back a b e)
  | After h ↦ Earlier h
]

pub then_along : (frame : Frame) (rising : Bool) (a b c : Place) → IsAlong frame rising a b → IsAlong frame rising b c
    → IsAlong frame rising a c
then_along Plain true a b c h k = then_before a b c h k
then_along Plain false a b c h k = then_before c b a k h
then_along Turned true a b c h k = then_before (turned a) (turned b) (turned c) h k
then_along Turned false a b c h k = then_before (turned c) (turned b) (turned a) k h

pub one_way : (frame : Frame) (rising : Bool) (a b : Place) → IsAlong frame rising a b → IsAlong frame rising b a → ⊥
one_way Plain true a b h k = not_both_ways a b h k
one_way Plain false a b h k = not_both_ways b a h k
one_way Turned true a b h k = not_both_ways (turned a) (turned b) h k
one_way Turned false a b h k = not_both_ways (turned b) (turned a) h k

-- ---- on a segment, and past it

on_exchanged : (a b p : Place) → IsOnSegment a b p → IsOnSegment (turned a) (turned b) (turned p)
on_exchanged a b p h = record {
  denominator = h.denominator;
  numerator = h.numerator;
  whole = h.whole;
  from_start = h.from_start;
  to_end =
      h.to_end;
  across = h.up;
  up = h.across;
}

-- on one axis: the two ways to the ends, in their shares, add up to nothing
shares : (n s a b v : ℤ) → n *ℤ v ≡ n *ℤ a +ℤ s *ℤ (b -ℤ a) → (n -ℤ s) *ℤ (a -ℤ v) +ℤ s *ℤ (b -ℤ v) ≡ pos 0
shares n s a b v e = let x = Variable in by_multiples (n ∷ s ∷ a ∷ b ∷ v ∷ [])
    ((x 0 ⊖ x 1) ⊗ (x 2 ⊖ x 4) ⊕ x 1 ⊗ (x 3 ⊖ x 4) ≈ Whole (pos 0))
    ((Whole (negsuc 0) times (x 0 ⊗ x 4 ≈ x 0 ⊗ x 2 ⊕ x 1 ⊗ (x 3 ⊖ x 2))) ∷ []) (e, tt) refl

shares_back : (n s a b v : ℤ) → n *ℤ v ≡ n *ℤ a +ℤ s *ℤ (b -ℤ a) → (n -ℤ s) *ℤ (v -ℤ a) +ℤ s *ℤ (v -ℤ b) ≡ pos 0
shares_back n s a b v e = let x = Variable in by_multiples (n ∷ s ∷ a ∷ b ∷ v ∷ [])
    ((x 0 ⊖ x 1) ⊗ (x 4 ⊖ x 2) ⊕ x 1 ⊗ (x 4 ⊖ x 3) ≈ Whole (pos 0)) ((Whole (pos 1) times (x 0 ⊗ x 4 ≈ x 0 ⊗ x 2 ⊕ x 1 ⊗ (x 3 ⊖ x 2))) ∷ [])
    (e, tt) refl

pub off_before : (a b p : Place) → IsBefore p a → IsBefore p b → ¬ (IsOnSegment a b p)
off_before a b p pa pb on =
    let one = on.whole in let low = on.from_start in let high = on.to_end in
    let xs = shares on.denominator on.numerator a.x b.x p.x on.across in
    let ys = shares on.denominator on.numerator a.y b.y p.y on.up in
    let ax = (up_to p a pa).across in let bx = (up_to p b pb).across in
    let u : pos 0 ≤ℤ ((on.denominator -ℤ on.numerator) *ℤ (a.x -ℤ p.x)) =
    times_nonnegative (on.denominator -ℤ on.numerator) (a.x -ℤ p.x) (omega (arith, sums)) (omega (arith, sums)) in
    let v : pos 0 ≤ℤ (on.numerator *ℤ (b.x -ℤ p.x)) = times_nonnegative on.numerator (b.x -ℤ p.x) low (omega (arith, sums)) in
    let s = spare (on.denominator -ℤ on.numerator) p a pa (omega (arith, sums)) (omega (arith, sums, xs)) in
    let t = spare on.numerator p b pb low (omega (arith, sums, xs)) in
    let s0 = s.0 in let t0 = t.0 in
    let e : on.denominator -ℤ on.numerator ≡ pos 0 = s.1 (omega (arith, sums, ys)) in
    let f : on.numerator ≡ pos 0 = t.1 (omega (arith, sums, ys)) in
    omega (arith, sums)

pub off_after : (a b p : Place) → IsBefore a p → IsBefore b p → ¬ (IsOnSegment a b p)
off_after a b p ap' bp on =
    let one = on.whole in let low = on.from_start in let high = on.to_end in
    let xs = shares_back on.denominator on.numerator a.x b.x p.x on.across in
    let ys = shares_back on.denominator on.numerator a.y b.y p.y on.up in
    let ax = (up_to a p ap').across in let bx = (up_to b p bp).across in
    let u : pos 0 ≤ℤ ((on.denominator -ℤ on.numerator) *ℤ (p.x -ℤ a.x)) =
    times_nonnegative (on.denominator -ℤ on.numerator) (p.x -ℤ a.x) (omega (arith, sums)) (omega (arith, sums)) in
    let v : pos 0 ≤ℤ (on.numerator *ℤ (p.x -ℤ b.x)) = times_nonnegative on.numerator (p.x -ℤ b.x) low (omega (arith, sums)) in
    let s = spare (on.denominator -ℤ on.numerator) a p ap' (omega (arith, sums)) (omega (arith, sums, xs)) in
    let t = spare on.numerator b p bp low (omega (arith, sums, xs)) in
    let s0 = s.0 in let t0 = t.0 in
    let e : on.denominator -ℤ on.numerator ≡ pos 0 = s.1 (omega (arith, sums, ys)) in
    let f : on.numerator ≡ pos 0 = t.1 (omega (arith, sums, ys)) in
    omega (arith, sums)

-- p is on one side of the edge ab along a chain: both its ends are ahead of it, or both behind
pub data IsPassed (frame : Frame) (rising : Bool) (p a b : Place) : Type 0 where
  Ahead : IsAlong frame rising p a → IsAlong frame rising p b → IsPassed frame rising p a b
  Behind : IsAlong frame rising a p → IsAlong frame rising b p → IsPassed frame rising p a b

pub passed_off : (frame : Frame) (rising : Bool) (p a b : Place) → IsPassed frame rising p a b → ¬ (IsOnSegment a b p)
passed_off Plain true p a b (Ahead h k) on = off_before a b p h k on
passed_off Plain true p a b (Behind h k) on = off_after a b p h k on
passed_off Plain false p a b (Ahead h k) on = off_after a b p h k on
passed_off Plain false p a b (Behind h k) on = off_before a b p h k on
passed_off Turned true p a b (Ahead h k) on = off_before (turned a) (turned b) (turned p) h k (on_exchanged a b p on)
passed_off Turned true p a b (Behind h k) on = off_after (turned a) (turned b) (turned p) h k (on_exchanged a b p on)
passed_off Turned false p a b (Ahead h k) on = off_after (turned a) (turned b) (turned p) h k (on_exchanged a b p on)
passed_off Turned false p a b (Behind h k) on = off_before (turned a) (turned b) (turned p) h k (on_exchanged a b p on)

pub spanned_not_passed : (frame : Frame) (rising : Bool) (p a b : Place) → IsAlong frame rising a p → IsAlong frame rising p b
    → IsPassed frame rising p a b → ⊥
spanned_not_passed frame rising p a b h k (Ahead l m) = one_way frame rising a p h l
spanned_not_passed frame rising p a b h k (Behind l m) = one_way frame rising p b k m

-- what does not come after is up to
up_to_unless : (a b : Place) → ¬ (IsBefore b a) → IsUpTo a b
up_to_unless a b later = elim (compared a b) [ Before h ↦ up_to a b h | Same e ↦ up_to_same a b e | After h ↦ absurd (later h) ]

on_by_unless : (a b p : Place) → ¬ (IsBefore p a) → ¬ (IsBefore b p) → area_of a b p ≡ pos 0 → IsOnSegment a b p
on_by_unless a b p from to flat = on_by_order a b p (up_to_unless a p from) (up_to_unless p b to) flat

-- p has come to the start of the edge ab and not passed its end, and is on its line
pub on_along : (frame : Frame) (rising : Bool) (a b p : Place) → ¬ (IsAlong frame rising p a) → ¬ (IsAlong frame rising b p)
    → area_of a b p ≡ pos 0 → IsOnSegment a b p
on_along Plain true a b p from to flat = on_by_unless a b p from to flat
on_along Plain false a b p from to flat = let turn = area_turned p a b in on_turned b a p (on_by_unless b a p to from (omega (arith, sums)))
on_along Turned true a b p from to flat =
    let turn = area_of-turned a b p in
    on_exchanged (turned a) (turned b) (turned p) (on_by_unless (turned a) (turned b) (turned p) from to (omega (arith, sums)))
on_along Turned false a b p from to flat =
    let turn = area_turned p a b in
    let back = area_of-turned b a p in
    on_turned b a p (on_exchanged (turned b) (turned a) (turned p)
    (on_by_unless (turned b) (turned a) (turned p) to from (omega (arith, sums))))
