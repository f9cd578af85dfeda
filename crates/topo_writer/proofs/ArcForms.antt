-- The text of arcs is a JSON value, and its tree is that of the arcs as they are written.
use Rattle.std.proofs.Common.{◌≡◌, ◌≤◌, ◌^◌, Bool, true, false, List, [], ◌∷◌, map, ℤ, pos, negsuc, neg_ℤ, ◌≤ℤ◌, sym, subst, arith}
use Rattle.std.specs.List.{AllByRecursion}
use Rattle.std.proofs.lemmas.Int.{ints}
use lib.Signed.{mag}
use Rattle.grid_exact.specs.Geometry.{Place}
use Rattle.topo_reader.specs.Positions.{is_grid_number}
use Rattle.topo_writer.specs.Texts.{list_text, position_text}
use Rattle.topo_writer.specs.ArcsText.{difference, coded_position, following, arc_text}
use Rattle.topo_writer.proofs.TreeShapes.{IsListTree, AreTrees, IsPairTree}
use Rattle.topo_writer.proofs.TextForms.{Spelled, pair-spelled, list-spelled, any_list-spelled}
use Rattle.topo_writer.proofs.TreeArcs.{IsGridPlace, IsGridArc, written, coded-written, IsWrittenArc}

-- ---- sizes

grid-low : (z : ℤ) → is_grid_number z ≡ true → neg_ℤ (pos (2 ^ 29)) ≤ℤ z
grid-low z grid = grind (arith, ints)

grid-high : (z : ℤ) → is_grid_number z ≡ true → z ≤ℤ pos (2 ^ 29)
grid-high z grid = grind (arith, ints)

small-magnitude : (z : ℤ) → neg_ℤ (pos (2 ^ 30)) ≤ℤ z → z ≤ℤ pos (2 ^ 30) → mag z ≤ 2 ^ 30
small-magnitude (pos n) low high = omega (arith, ints, high)
small-magnitude (negsuc n) low high = omega (arith, ints, low)

-- both numbers of a written position are small
record IsSmallPair (w : Place) : Type 0 where
  across : mag w.x ≤ 2 ^ 30
  up : mag w.y ≤ 2 ^ 30

grid-small : (z : ℤ) → is_grid_number z ≡ true → mag z ≤ 2 ^ 30
grid-small z grid =
    let low = grid-low z grid in
    let high = grid-high z grid in
    small-magnitude z (omega (arith, ints, low)) (omega (arith, ints, high))

place-small : (p : Place) → IsGridPlace p → IsSmallPair p
place-small p grid = record { across = grid-small p.x grid.0; up = grid-small p.y grid.1 }

difference-small : (p q : Place) → IsGridPlace p → IsGridPlace q → IsSmallPair (difference p q)
difference-small p q a b =
    let pxl = grid-low p.x a.0 in
    let pxh = grid-high p.x a.0 in
    let pyl = grid-low p.y a.1 in
    let pyh = grid-high p.y a.1 in
    let qxl = grid-low q.x b.0 in
    let qxh = grid-high q.x b.0 in
    let qyl = grid-low q.y b.1 in
    let qyh = grid-high q.y b.1 in
    record {
      across = small-magnitude (difference p q).x (omega (arith, ints, pxh, qxl)) (omega (arith, ints, pxl, qxh));
      up = small-magnitude (difference p q).y (omega (arith, ints, pyh, qyl)) (omega (arith, ints, pyl, qyh));
    }

coded-small : (coded : Bool) (p q : Place) → IsGridPlace p → IsGridPlace q → IsSmallPair (coded_position coded p q)
coded-small true p q a b = difference-small p q a b
coded-small false p q a b = place-small q b

-- ---- texts

small-spelled : (w : Place) → IsSmallPair w → Spelled (IsPairTree w) 1 (position_text w)
small-spelled w small = pair-spelled w small.across small.up

written-spelled : (coded : Bool) (p : Place) (qs : List Place) → IsGridPlace p → AllByRecursion IsGridPlace qs
    → AllByRecursion (λ w. Spelled (IsPairTree w) 1 (position_text w)) (written coded p qs)
written-spelled coded p [] grid each = tt
written-spelled coded p (q ∷ qs) grid each =
    (small-spelled (coded_position coded p q) (coded-small coded p q grid each.0), written-spelled coded q qs each.0 each.1)

following-grid : (p : Place) (ps : List Place) → IsGridPlace p → AllByRecursion IsGridPlace ps → AllByRecursion IsGridPlace (following p ps)
following-grid p [] grid each = (grid, tt)
following-grid p (q ∷ qs) grid each = each

arc-spelled : (coded : Bool) (arc : List Place) → IsGridArc arc → Spelled (IsWrittenArc coded arc) 2 (arc_text coded arc)
arc-spelled coded [] is = absurd is.is_arc
arc-spelled coded (p ∷ ps) is =
    let rest = written coded p (following p ps) in
    subst (λ (qs : List Place). Spelled (IsWrittenArc coded (p ∷ ps)) 2 (list_text (map position_text (p ∷ qs))))
    (sym (coded-written coded p (following p ps)))
    (list-spelled IsPairTree position_text 1 p rest (small-spelled p (place-small p is.grid.0))
    (written-spelled coded p (following p ps) is.grid.0 (following-grid p ps is.grid.0 is.grid.1)))

each-spelled : (coded : Bool) (arcs : List (List Place)) → AllByRecursion IsGridArc arcs
    → AllByRecursion (λ arc. Spelled (IsWrittenArc coded arc) 2 (arc_text coded arc)) arcs
each-spelled coded [] each = tt
each-spelled coded (arc ∷ arcs) each = (arc-spelled coded arc each.0, each-spelled coded arcs each.1)

pub arcs-spelled : (coded : Bool) (arcs : List (List Place)) → AllByRecursion IsGridArc arcs
    → Spelled (IsListTree (AreTrees (IsWrittenArc coded) arcs)) 3 (list_text (map (arc_text coded) arcs))
arcs-spelled coded arcs each = any_list-spelled (IsWrittenArc coded) (arc_text coded) 2 arcs (each-spelled coded arcs each)
