-- The texts of points are read as the points.
use Rattle.std.proofs.Common.{◌≡◌, ℕ, suc, ◌+◌, ◌^◌, ◌<◌, ◌≤◌, List, [], ◌∷◌, ◌++◌, length, ℤ, pos, negsuc, neg_ℤ, ◌≤ℤ◌, true, Result, Ok}
use Rattle.std.proofs.Common.{Err, refl, sym, ap, subst, ◌∙◌, arith, append_assoc, append-nil}
use Rattle.std.proofs.lemmas.Int.{ints}
use Rattle.std.proofs.lemmas.List.{length-append}
use lib.Signed.{mag}
use Rattle.grid_exact.specs.Geometry.{Place}
use Rattle.json_scan.specs.Tree.{Tree, NullAt, FalseAt, TrueAt, NumberAt, TextAt, ListAt, ObjectAt, Trees, NoTrees, NextTree}
use Rattle.topo_reader.specs.declared.fault.ReadFault.{ReadFault}
use Rattle.topo_reader.specs.declared.fault.What.TheVariants as what
use Rattle.topo_reader.specs.Sequence.{and_then, each}
use Rattle.topo_reader.specs.Positions.{is_grid_number, position_of, position_from, origin}
use Rattle.topo_reader.specs.Geometries.{point_added as read_point, points_added as read_points}
use Rattle.topo_reader.proofs.Counting.{counted-more}
use Rattle.topo_reader.proofs.ArcLaws.{not-ok, same-ok, then-ok}
use Rattle.topo_writer.specs.Texts.{position_text}
use Rattle.topo_writer.proofs.TreeShapes.{IsListTree, IsPairTree}
use Rattle.topo_writer.proofs.TextForms.{pair-spelled}
use Rattle.topo_writer.proofs.TreeArcs.{IsGridPlace, pair-read, from-origin}
use Rattle.topo_writer.proofs.ReadArcs.{position-keeps}
use Rattle.geo_reader.specs.declared.fault.GeoFault.{GeoFault}
use Rattle.geo_reader.specs.Steps.{list_of}
use Rattle.geo_reader.specs.Rings.{with_fault, position_at}
use Rattle.geo_reader.specs.Geometries.{point_added, points_added}
use Rattle.geo_reader.proofs.RingLaws.{below-ok}
use Rattle.geo_text.specs.Drafts.{with_point, list_added}
use Rattle.geo_text.proofs.Told.{Told, told-from, told-so}
use Rattle.geo_text.proofs.Depths.{tree_depth, trees_depth}
use Rattle.geo_text.proofs.Adding.{Done, DoneEach, none-done, next-done, list-done}

-- ---- what is read

abbrev pub PointRead : Place → Tree → Type 0
PointRead p t = position_of origin t ≡ Ok p

abbrev pub PointsRead : List Place → Trees → Type 0
PointsRead ps trees = (points : List Place) → length points + length ps ≤ 2 ^ 20 → read_points trees points ≡ Ok (points ++ ps)

pub point-added : (p : Place) (t : Tree) (points : List Place) → PointRead p t → length points < 2 ^ 20
    → read_point t points ≡ Ok (points ++ p ∷ [])
point-added p t points is few =
    counted-more what.Points (2 ^ 20) (length points) t _ few
    ∙ ap (λ (r : Result Place ReadFault). and_then r (λ (q : Place). Ok (points ++ q ∷ []))) is

same-points : (a b : List Place) → a ≡ b → ◌≡◌ {A = Result (List Place) ReadFault} (Ok a) (Ok b)
same-points a b e = rw e refl

next-points : (p : Place) (ps : List Place) (t : Tree) (others : Trees) → PointRead p t → PointsRead ps others
    → PointsRead (p ∷ ps) (NextTree t others)
next-points p ps t others is are points few =
    let below : length points < 2 ^ 20 = omega (arith, few) in
    let fewer : length (points ++ p ∷ []) + length ps ≤ 2 ^ 20 = omega (arith, few, length-append points (p ∷ [])) in
    ap (λ (r : Result (List Place) ReadFault). and_then r (read_points others)) (point-added p t points is below)
    ∙ are (points ++ p ∷ []) fewer
    ∙ same-points ((points ++ p ∷ []) ++ ps) (points ++ p ∷ ps) (append_assoc points (p ∷ []) ps)

-- ---- one point

grid-small : (z : ℤ) → is_grid_number z ≡ true → mag z ≤ 2 ^ 30
grid-small (pos n) grid =
    let high : pos n ≤ℤ pos (2 ^ 29) = grind (arith, ints) in
    omega (arith, ints, high)
grid-small (negsuc n) grid =
    let low : neg_ℤ (pos (2 ^ 29)) ≤ℤ negsuc n = grind (arith, ints) in
    omega (arith, ints, low)

position-deep : (p : Place) (t : Tree) → position_of origin t ≡ Ok p → 1 ≤ tree_depth t
position-deep p (NullAt e) h = not-ok _ p h
position-deep p (FalseAt e) h = not-ok _ p h
position-deep p (TrueAt e) h = not-ok _ p h
position-deep p (NumberAt e whole) h = not-ok _ p h
position-deep p (TextAt e word) h = not-ok _ p h
position-deep p (ListAt e trees) h = omega arith
position-deep p (ObjectAt e members) h = not-ok _ p h

pub position-ok : (r : Result Place ReadFault) (p : Place) → with_fault r ≡ Ok p → r ≡ Ok p
position-ok (Ok q) p h = ap (λ (a : Place). Ok a) (same-ok q p h)
position-ok (Err fault) p h = not-ok _ p h

point-done : (p : Place) (t : Tree) (rings : List (List ℤ)) (left : List Place) → position_at t ≡ Ok p
    → Done with_point rings (p ∷ left) (PointRead p) (tree_depth t) rings left
point-done p t rings left h =
    let read : position_of origin t ≡ Ok p = position-ok (position_of origin t) p h in
    let grid = position-keeps origin p t read in
    let spelled = pair-spelled p (grid-small p.x grid.0) (grid-small p.y grid.1) in
    record {
      word = position_text p;
      adds = λ text. refl;
      told = told-so (IsPairTree p) (PointRead p) 1 (tree_depth t) (position_text p)
          (λ u is. pair-read origin p p u grid (from-origin p) is) (position-deep p t read)
          (told-from (IsPairTree p) 1 (position_text p) spelled);
    }

-- the point that was read of a value, and how it is written
pub record PointDone (t : Tree) (before after : List Place) : Type 0 where
  pub point : Place
  pub after_is : after ≡ before ++ point ∷ []
  pub done : (rings : List (List ℤ)) (left : List Place) → Done with_point rings (point ∷ left) (PointRead point) (tree_depth t) rings left

pub one_point-done : (t : Tree) (before after : List Place) → point_added t before ≡ Ok after → PointDone t before after
one_point-done t before after h =
    let step = below-ok (length before) (2 ^ 20) _ _ after h in
    let placed = then-ok (position_at t) (λ p. Ok (before ++ p ∷ [])) after step.1 in
    record {
      point = placed.0;
      after_is = sym (same-ok (before ++ placed.0 ∷ []) after placed.2);
      done = λ rings left. point-done placed.0 t rings left placed.1;
    }

-- ---- several points

record PointsDone (trees : Trees) (before after : List Place) : Type 0 where
  own : List Place
  after_is : after ≡ before ++ own
  done : (rings : List (List ℤ)) (left : List Place)
      → DoneEach (λ t. with_point) trees rings (own ++ left) (PointsRead own) (trees_depth trees) rings left

points-done : (trees : Trees) (before after : List Place) → each point_added trees before ≡ Ok after → PointsDone trees before after
points-done NoTrees before after h = record {
  own = [];
  after_is = sym (same-ok before after h) ∙ sym (append-nil before);
  done = λ rings left. none-done (λ t. with_point) rings left (PointsRead []) 0
      (λ points few. same-points points (points ++ []) (sym (append-nil points)));
}
points-done (NextTree t others) before after h =
    let step = then-ok (point_added t before) (each point_added others) after h in
    let first = one_point-done t before step.0 step.1 in
    let more = points-done others step.0 after step.2 in
    record {
      own = first.point ∷ more.own;
      after_is = more.after_is ∙ ap (λ (l : List Place). l ++ more.own) first.after_is ∙ append_assoc before (first.point ∷ []) more.own;
      done = λ rings left.
          next-done (λ t. with_point) t others rings (first.point ∷ (more.own ++ left)) (PointRead first.point) (PointsRead more.own)
          (PointsRead (first.point ∷ more.own)) (tree_depth t) (trees_depth others) rings (more.own ++ left) rings left
          (λ u us is are. next-points first.point more.own u us is are)
          (first.done rings (more.own ++ left))
          (more.done rings left);
    }

-- the List of points that was read, and how it is written
pub record PointListDone (t : Tree) (before after : List Place) : Type 0 where
  pub own : List Place
  pub after_is : after ≡ before ++ own
  pub done : (rings : List (List ℤ)) (left : List Place)
      → Done (list_added (λ t. with_point) t) rings (own ++ left) (IsListTree (PointsRead own)) (tree_depth t) rings left

pub list_of_points-done : (t : Tree) (before after : List Place) → points_added t before ≡ Ok after → PointListDone t before after
list_of_points-done (NullAt e) before after h = not-ok _ after h
list_of_points-done (FalseAt e) before after h = not-ok _ after h
list_of_points-done (TrueAt e) before after h = not-ok _ after h
list_of_points-done (NumberAt e whole) before after h = not-ok _ after h
list_of_points-done (TextAt e word) before after h = not-ok _ after h
list_of_points-done (ListAt e trees) before after h =
    let points = points-done trees before after h in
    record {
      own = points.own;
      after_is = points.after_is;
      done = λ rings left. list-done (λ t. with_point) e trees rings (points.own ++ left) (PointsRead points.own) (trees_depth trees) rings
          left (points.done rings left);
    }
list_of_points-done (ObjectAt e members) before after h = not-ok _ after h
