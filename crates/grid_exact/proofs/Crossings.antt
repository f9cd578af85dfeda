-- When an edge is crossed: read backwards, with the axes exchanged, and by where its ends are.
use Rattle.std.proofs.Common.{◌≡◌, Bool, true, false, ◌&&◌, ◌||◌, pos, int_lt, refl, sym, ap, ◌∙◌}
use Rattle.grid_exact.specs.Geometry.{Place, area_of, turned, IsBefore}
use Rattle.grid_exact.specs.Crossing.{is_before, is_crossed, is_crossed_sideways}
use Rattle.grid_exact.specs.Walks.{differ}
use Rattle.grid_exact.proofs.Orders.{before_yes, before_no, opposite_sides}
use Rattle.grid_exact.proofs.Areas.{area_of-turned}

-- ---- bits

or_false : (t : Bool) → (t || false) ≡ t
or_false true = refl
or_false false = refl

pub differ_false : (t : Bool) → differ t false ≡ t
differ_false true = refl
differ_false false = refl

pub differ_turned : (s t : Bool) → differ s t ≡ differ t s
differ_turned true true = refl
differ_turned true false = refl
differ_turned false true = refl
differ_turned false false = refl

or_turned : (s t : Bool) → (s || t) ≡ (t || s)
or_turned true true = refl
or_turned true false = refl
or_turned false true = refl
or_turned false false = refl

-- ---- an edge read backwards

pub crossed_turned : (p a b : Place) → is_crossed p a b ≡ is_crossed p b a
crossed_turned p a b = or_turned (is_before a p && is_before p b && int_lt (area_of a b p) (pos 0)) (is_before b p && is_before p a
    && int_lt (area_of b a p) (pos 0))

pub sideways_turned : (p a b : Place) → is_crossed_sideways p a b ≡ is_crossed_sideways p b a
sideways_turned p a b = or_turned (is_before (turned a) (turned p) && is_before (turned p) (turned b) && int_lt (pos 0) (area_of a b p))
    (is_before (turned b) (turned p) && is_before (turned p) (turned a) && int_lt (pos 0) (area_of b a p))

pub sideways_is_turned : (p a b : Place) → is_crossed_sideways p a b ≡ is_crossed (turned p) (turned a) (turned b)
sideways_is_turned p a b =
    ap (λ (t : Bool). (is_before (turned a) (turned p) && is_before (turned p) (turned b) && t)
    || (is_before (turned b) (turned p) && is_before (turned p) (turned a) && int_lt (pos 0) (area_of b a p)))
    (sym (opposite_sides (area_of (turned a) (turned b) (turned p)) (area_of a b p) (area_of-turned a b p)))
    ∙ ap (λ (t : Bool). (is_before (turned a) (turned p) && is_before (turned p) (turned b)
    && int_lt (area_of (turned a) (turned b) (turned p)) (pos 0))
    || (is_before (turned b) (turned p) && is_before (turned p) (turned a) && t))
    (sym (opposite_sides (area_of (turned b) (turned a) (turned p)) (area_of b a p) (area_of-turned b a p)))

-- ---- a point between the ends, past both or before both

pub crossed_between : (p v w : Place) → IsBefore v p → IsBefore p w → is_crossed p v w ≡ int_lt (area_of v w p) (pos 0)
crossed_between p v w vp pw = simp (before_yes v p vp, before_yes p w pw, before_no w p pw) (or_false (int_lt (area_of v w p) (pos 0)))

pub crossed_after : (p v w : Place) → IsBefore v p → IsBefore w p → is_crossed p v w ≡ false
crossed_after p v w vp wp = simp (before_yes v p vp, before_no p w wp, before_yes w p wp, before_no p v vp)

pub crossed_before : (p v w : Place) → IsBefore p v → IsBefore p w → is_crossed p v w ≡ false
crossed_before p v w pv pw = simp (before_no v p pv, before_no w p pw)
