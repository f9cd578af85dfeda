-- The walk over geometries answers the same for trees that are the same but for their places, and for arcs with the same ends.
use Rattle.std.specs.Prelude.{codes, option_map, slice_get, if◌then◌else◌}
use Rattle.std.proofs.Common.{◌≡◌, ℕ, ◌^◌, bytes_eq, Option, Some, None, List, [], ◌∷◌, ◌++◌, length, Result, Ok, ℤ, pos, negsuc, ◌+ℤ◌}
use Rattle.std.proofs.Common.{refl, sym, ap, subst, ◌∙◌}
use Rattle.grid_exact.specs.Geometry.{Place}
use Rattle.json_scan.specs.declared.whole.Whole.{Whole}
use Rattle.json_scan.specs.declared.whole.Whole.TheVariants as whole
use Rattle.json_scan.specs.Tree.{Tree, NullAt, NumberAt, TextAt, ListAt, ObjectAt, Trees, NoTrees, NextTree, Entries, NoEntries, NextEntry}
use Rattle.topo_reader.specs.declared.fault.ReadFault.{ReadFault}
use Rattle.topo_reader.specs.declared.fault.What.TheVariants as what
use Rattle.topo_reader.specs.declared.line.Step.{Step}
use Rattle.topo_reader.specs.declared.geometry.Geometry.{Geometry}
use Rattle.topo_reader.specs.declared.geometry.Geometry.TheVariants as geometry
use Rattle.topo_reader.specs.Sequence.{and_then, list_of, required}
use Rattle.topo_reader.specs.Positions.{is_grid_number, whole_number, number_of, two_numbers, position_from, position_of, origin}
use Rattle.topo_reader.specs.Geometries.{Seen, point_added, points_added, with_points, forwards, backwards, whole_step, found_step, step_of}
use Rattle.topo_reader.specs.Geometries.{Line, no_line, joins, joined, line_from, is_same, closed, line_of, lines_of, PolygonRead, ring_of}
use Rattle.topo_reader.specs.Geometries.{rings_from, rings_of, polygons_from, polygons_of, with_polygon, polygon_of, with_references}
use Rattle.topo_reader.specs.Geometries.{text_geometry, named_geometry, geometry_name, geometry_header, of_kind, geometry_of, collection_of}
use Rattle.topo_reader.specs.Geometries.{geometry_list, geometries_of, objects_from, objects_of}
use Rattle.topo_writer.proofs.Alike.{Alike, AreAlike, EntriesAlike}
use Rattle.topo_writer.proofs.Follows.{SameOk, then-follows, then-same, if-same, counted-same, each-same, list-alike, required-alike}

-- ---- positions

whole-same : (base : ℤ) (m n : ℕ) (number : Whole) → SameOk (whole_number base m number) (whole_number base n number)
whole-same base m n whole.NotWhole = tt
whole-same base m n whole.Beyond = tt
whole-same base m n (whole.Value z) = if-same (is_grid_number (base +ℤ z)) _ _ _ _ refl tt

number-same : (base : ℤ) (t u : Tree) → Alike t u → SameOk (number_of base t) (number_of base u)
number-same base (NumberAt e number) (NumberAt f other) is = subst (λ (w : Whole).
    SameOk (whole_number base e.start number) (whole_number base f.start w)) (sym is) (whole-same base e.start f.start number)
number-same base (NumberAt e number) u is = absurd is
number-same base t u is = tt

abbrev placed : ℤ → ℤ → Result Place ReadFault
placed x y = Ok (record { x = x; y = y })

two-same : (base : Place) (a b c d : Tree) → Alike a c → Alike b d → SameOk (two_numbers base a b) (two_numbers base c d)
two-same base a b c d first second =
    then-same (number_of base.x a) (number_of base.x c) (λ x. and_then (number_of base.y b) (placed x)) (λ x.
    and_then (number_of base.y d) (placed x)) (number-same base.x a c first)
    (λ x. then-same (number_of base.y b) (number_of base.y d) (placed x) (placed x) (number-same base.y b d second) (λ y. refl))

from-same : (base : Place) (t u : Tree) (ts us : Trees) → AreAlike ts us → SameOk (position_from base t ts) (position_from base u us)
from-same base t u NoTrees us are = tt
from-same base t u (NextTree a NoTrees) us are = tt
from-same base t u (NextTree a (NextTree b NoTrees)) NoTrees are = absurd are
from-same base t u (NextTree a (NextTree b NoTrees)) (NextTree c NoTrees) are = absurd are.1
from-same base t u (NextTree a (NextTree b NoTrees)) (NextTree c (NextTree d NoTrees)) are = two-same base a b c d are.0 are.1.0
from-same base t u (NextTree a (NextTree b NoTrees)) (NextTree c (NextTree d (NextTree third more))) are = absurd are.1.1
from-same base t u (NextTree a (NextTree b (NextTree third more))) us are = tt

pub position-same : (base : Place) (t u : Tree) → Alike t u → SameOk (position_of base t) (position_of base u)
position-same base t u is = then-follows AreAlike (list_of t) (list_of u) (position_from base t) (position_from base u) (list-alike t u is)
    (from-same base t u)

-- ---- points

point-same : (t u : Tree) (points : List Place) → Alike t u → SameOk (point_added t points) (point_added u points)
point-same t u points is =
    counted-same what.Points (2 ^ 20) (length points) t u _ _
    (then-same (position_of origin t) (position_of origin u) (λ p. Ok (points ++ p ∷ [])) (λ p. Ok (points ++ p ∷ []))
    (position-same origin t u is) (λ p. refl))

points-same : (ts us : Trees) (points : List Place) → AreAlike ts us → SameOk (points_added ts points) (points_added us points)
points-same = each-same point_added point_added point-same

with_points-same : (seen : Seen) (a b : Result (List Place) ReadFault) → SameOk a b → SameOk (with_points seen a) (with_points seen b)
with_points-same seen a b same = then-same a b (λ points. Ok (record seen { points = points })) (λ points.
    Ok (record seen { points = points })) same (λ points. refl)

-- ---- arcs by their numbers

-- each number names an arc with the same ends in the one as in the other, or none in both
pub record SameSteps (arcs others : List (List Place)) : Type 0 where
  pub forward : (k : ℕ) → option_map (forwards k) (slice_get arcs k) ≡ option_map (forwards k) (slice_get others k)
  pub backward : (k : ℕ) → option_map (backwards k) (slice_get arcs k) ≡ option_map (backwards k) (slice_get others k)

whole-steps : (arcs others : List (List Place)) (number : Whole) → SameSteps arcs others → whole_step arcs number ≡ whole_step others number
whole-steps arcs others whole.NotWhole same = refl
whole-steps arcs others whole.Beyond same = refl
whole-steps arcs others (whole.Value (pos k)) same = same.forward k
whole-steps arcs others (whole.Value (negsuc k)) same = same.backward k

found-same : (t u : Tree) (o : Option Step) → SameOk (found_step t o) (found_step u o)
found-same t u None = tt
found-same t u (Some step) = refl

number_step-same : (arcs others : List (List Place)) (t u : Tree) (a b : Whole) → SameSteps arcs others → b ≡ a
    → SameOk (found_step t (whole_step arcs a)) (found_step u (whole_step others b))
number_step-same arcs others t u a b same e =
    subst (λ (o : Option Step). SameOk (found_step t (whole_step arcs a)) (found_step u o)) (whole-steps arcs others a same
    ∙ ap (whole_step others) (sym e)) (found-same t u (whole_step arcs a))

step-same : (arcs others : List (List Place)) (t u : Tree) → SameSteps arcs others → Alike t u → SameOk (step_of arcs t) (step_of others u)
step-same arcs others (NumberAt e a) (NumberAt f b) same is = number_step-same arcs others (NumberAt e a) (NumberAt f b) a b same is
step-same arcs others (NumberAt e a) u same is = absurd is
step-same arcs others t u same is = tt

-- ---- lines and rings

joined-same : (t u : Tree) (line : Line) (step : Step) → SameOk (joined t line step) (joined u line step)
joined-same t u line step = if-same (joins line.last step.first) _ _ _ _ refl tt

closed-same : (t u : Tree) (line : Line) → SameOk (closed t line) (closed u line)
closed-same t u line = if-same (is_same line.last line.first) _ _ _ _ refl tt

walk-same : (arcs others : List (List Place)) (ts us : Trees) (line : Line) → SameSteps arcs others → AreAlike ts us
    → SameOk (line_from arcs ts line) (line_from others us line)
walk-same arcs others NoTrees NoTrees line same are = refl
walk-same arcs others NoTrees (NextTree u us) line same are = absurd are
walk-same arcs others (NextTree t ts) NoTrees line same are = absurd are
walk-same arcs others (NextTree t ts) (NextTree u us) line same are =
    counted-same what.References (2 ^ 22) line.references t u _ _
    (then-same (step_of arcs t) (step_of others u) (λ step. and_then (joined t line step) (line_from arcs ts)) (λ step.
    and_then (joined u line step) (line_from others us)) (step-same arcs others t u same are.0)
    (λ step. then-same (joined t line step) (joined u line step) (line_from arcs ts) (line_from others us) (joined-same t u line step)
    (λ next. walk-same arcs others ts us next same are.1)))

line-same : (arcs others : List (List Place)) → SameSteps arcs others → (t u : Tree) (references : ℕ) → Alike t u
    → SameOk (line_of arcs t references) (line_of others u references)
line-same arcs others same t u references is =
    then-follows AreAlike (list_of t) (list_of u) (λ trees. and_then (line_from arcs trees (no_line [] references)) (λ line.
    Ok line.references)) (λ trees. and_then (line_from others trees (no_line [] references)) (λ line. Ok line.references))
    (list-alike t u is)
    (λ ts us are. then-same (line_from arcs ts (no_line [] references)) (line_from others us (no_line [] references)) (λ line.
    Ok line.references) (λ line. Ok line.references) (walk-same arcs others ts us (no_line [] references) same are) (λ line. refl))

lines-same : (arcs others : List (List Place)) → SameSteps arcs others → (ts us : Trees) (references : ℕ) → AreAlike ts us
    → SameOk (lines_of arcs ts references) (lines_of others us references)
lines-same arcs others same = each-same (line_of arcs) (line_of others) (line-same arcs others same)

abbrev ring_closed : Line → Result PolygonRead ReadFault
ring_closed ring = Ok (record { numbers = ring.numbers; references = ring.references })

ring-same : (arcs others : List (List Place)) → SameSteps arcs others → (t u : Tree) (polygon : PolygonRead) → Alike t u
    → SameOk (ring_of arcs t polygon) (ring_of others u polygon)
ring-same arcs others same t u polygon is =
    let start = no_line polygon.numbers polygon.references in
    then-follows AreAlike (list_of t) (list_of u) (λ trees. and_then (line_from arcs trees start) (λ line.
    and_then (closed t line) ring_closed)) (λ trees. and_then (line_from others trees start) (λ line.
    and_then (closed u line) ring_closed)) (list-alike t u is)
    (λ ts us are. then-same (line_from arcs ts start) (line_from others us start) (λ line. and_then (closed t line) ring_closed) (λ line.
    and_then (closed u line) ring_closed) (walk-same arcs others ts us start same are)
    (λ line. then-same (closed t line) (closed u line) ring_closed ring_closed (closed-same t u line) (λ ring. refl)))

rings-same : (arcs others : List (List Place)) → SameSteps arcs others → (t u : Tree) (polygon : PolygonRead) → Alike t u
    → SameOk (rings_of arcs t polygon) (rings_of others u polygon)
rings-same arcs others same t u polygon is =
    then-follows AreAlike (list_of t) (list_of u) (λ trees. rings_from arcs trees polygon) (λ trees. rings_from others trees polygon)
    (list-alike t u is)
    (λ ts us are. each-same (ring_of arcs) (ring_of others) (ring-same arcs others same) ts us polygon are)

polygons-same : (arcs others : List (List Place)) → SameSteps arcs others → (t u : Tree) (polygon : PolygonRead) → Alike t u
    → SameOk (polygons_of arcs t polygon) (polygons_of others u polygon)
polygons-same arcs others same t u polygon is =
    then-follows AreAlike (list_of t) (list_of u) (λ trees. polygons_from arcs trees polygon) (λ trees. polygons_from others trees polygon)
    (list-alike t u is)
    (λ ts us are. each-same (rings_of arcs) (rings_of others) (rings-same arcs others same) ts us polygon are)

-- ---- geometries

named-same : (t u : Tree) (o : Option Geometry) → SameOk (named_geometry t o) (named_geometry u o)
named-same t u None = tt
named-same t u (Some name) = refl

text-same : (t u : Tree) (a b : List ℕ) → b ≡ a → SameOk (named_geometry t (text_geometry a)) (named_geometry u (text_geometry b))
text-same t u a b e = subst (λ (w : List ℕ). SameOk (named_geometry t (text_geometry a)) (named_geometry u (text_geometry w))) (sym e)
    (named-same t u (text_geometry a))

name-same : (t u : Tree) → Alike t u → SameOk (geometry_name t) (geometry_name u)
name-same (NullAt e) (NullAt f) is = refl
name-same (NullAt e) u is = absurd is
name-same (TextAt e a) (TextAt f b) is = text-same (TextAt e a) (TextAt f b) a b is
name-same (TextAt e a) u is = absurd is
name-same t u is = tt

header-same : (t u : Tree) → Alike t u → SameOk (geometry_header t) (geometry_header u)
header-same (ObjectAt e members) (ObjectAt f others) are =
    then-follows Alike (required (codes "type") (ObjectAt e members) members) (required (codes "type") (ObjectAt f others) others)
    geometry_name geometry_name
    (required-alike (codes "type") (ObjectAt e members) (ObjectAt f others) members others are) name-same
header-same (ObjectAt e members) u are = absurd are
header-same t u are = tt

with_references-same : (seen : Seen) (a b : Result ℕ ReadFault) → SameOk a b → SameOk (with_references seen a) (with_references seen b)
with_references-same seen a b same = then-same a b (λ references. Ok (record seen { references = references })) (λ references.
    Ok (record seen { references = references })) same (λ references. refl)

abbrev added : Seen → PolygonRead → Result Seen ReadFault
added seen polygon = Ok (with_polygon seen polygon)

polygon-same : (rings others : Tree → PolygonRead → Result PolygonRead ReadFault)
    → ((t u : Tree) (polygon : PolygonRead) → Alike t u → SameOk (rings t polygon) (others u polygon))
    → (t u : Tree) (es fs : Entries) (seen : Seen) → EntriesAlike es fs
    → SameOk (polygon_of rings t es seen) (polygon_of others u fs seen)
polygon-same rings others same t u es fs seen are =
    let start : PolygonRead = record { numbers = []; references = seen.references } in
    counted-same what.Polygons (2 ^ 20) (length seen.polygons) t u _ _
    (then-follows Alike (required (codes "arcs") t es) (required (codes "arcs") u fs) (λ value. and_then (rings value start) (added seen))
    (λ value. and_then (others value start) (added seen)) (required-alike (codes "arcs") t u es fs are)
    (λ v w is. then-same (rings v start) (others w start) (added seen) (added seen) (same v w start is) (λ polygon. refl)))

kind-same : (arcs others : List (List Place)) (name : Geometry) (t u : Tree) (es fs : Entries) (collected gathered : Seen
    → Result Seen ReadFault) (seen : Seen) → SameSteps arcs others → EntriesAlike es fs → SameOk (collected seen) (gathered seen)
    → SameOk (of_kind arcs name t es collected seen) (of_kind others name u fs gathered seen)
kind-same arcs others geometry.Nothing t u es fs collected gathered seen same are more = refl
kind-same arcs others geometry.Point t u es fs collected gathered seen same are more =
    then-follows Alike (required (codes "coordinates") t es) (required (codes "coordinates") u fs) (λ value.
    with_points seen (point_added value seen.points)) (λ value. with_points seen (point_added value seen.points))
    (required-alike (codes "coordinates") t u es fs are) (λ v w is.
    with_points-same seen (point_added v seen.points) (point_added w seen.points) (point-same v w seen.points is))
kind-same arcs others geometry.MultiPoint t u es fs collected gathered seen same are more =
    then-follows Alike (required (codes "coordinates") t es) (required (codes "coordinates") u fs) (λ value.
    and_then (list_of value) (λ trees. with_points seen (points_added trees seen.points))) (λ value.
    and_then (list_of value) (λ trees. with_points seen (points_added trees seen.points)))
    (required-alike (codes "coordinates") t u es fs are)
    (λ v w is. then-follows AreAlike (list_of v) (list_of w) (λ trees. with_points seen (points_added trees seen.points)) (λ trees.
    with_points seen (points_added trees seen.points)) (list-alike v w is)
    (λ ts us all. with_points-same seen (points_added ts seen.points) (points_added us seen.points) (points-same ts us seen.points all)))
kind-same arcs others geometry.LineString t u es fs collected gathered seen same are more =
    then-follows Alike (required (codes "arcs") t es) (required (codes "arcs") u fs) (λ value.
    with_references seen (line_of arcs value seen.references)) (λ value. with_references seen (line_of others value seen.references))
    (required-alike (codes "arcs") t u es fs are) (λ v w is. with_references-same seen (line_of arcs v seen.references)
    (line_of others w seen.references) (line-same arcs others same v w seen.references is))
kind-same arcs others geometry.MultiLineString t u es fs collected gathered seen same are more =
    then-follows Alike (required (codes "arcs") t es) (required (codes "arcs") u fs) (λ value.
    and_then (list_of value) (λ trees. with_references seen (lines_of arcs trees seen.references))) (λ value.
    and_then (list_of value) (λ trees. with_references seen (lines_of others trees seen.references)))
    (required-alike (codes "arcs") t u es fs are)
    (λ v w is. then-follows AreAlike (list_of v) (list_of w) (λ trees. with_references seen (lines_of arcs trees seen.references)) (λ trees.
    with_references seen (lines_of others trees seen.references)) (list-alike v w is)
    (λ ts us all. with_references-same seen (lines_of arcs ts seen.references) (lines_of others us seen.references)
    (lines-same arcs others same ts us seen.references all)))
kind-same arcs others geometry.Polygon t u es fs collected gathered seen same are more =
    polygon-same (rings_of arcs) (rings_of others) (rings-same arcs others same) t u es fs seen are
kind-same arcs others geometry.MultiPolygon t u es fs collected gathered seen same are more =
    polygon-same (polygons_of arcs) (polygons_of others) (polygons-same arcs others same) t u es fs seen are
kind-same arcs others geometry.GeometryCollection t u es fs collected gathered seen same are more =
    then-follows Alike (required (codes "geometries") t es) (required (codes "geometries") u fs) (λ value. collected seen) (λ value.
    gathered seen) (required-alike (codes "geometries") t u es fs are) (λ v w is. more)

word-choice : (a b name : List ℕ) (x y more others : Result Seen ReadFault) → b ≡ a → SameOk x y → SameOk more others
    → SameOk (if bytes_eq a name then x else more) (if bytes_eq b name then y else others)
word-choice a b name x y more others e h k = subst (λ (w : List ℕ).
    SameOk (if bytes_eq a name then x else more) (if bytes_eq w name then y else others)) (sym e)
    (if-same (bytes_eq a name) x y more others h k)

mutual
  geometry-same : (arcs others : List (List Place)) → SameSteps arcs others → (t u : Tree) (seen : Seen) → Alike t u
      → SameOk (geometry_of arcs t seen) (geometry_of others u seen)
  geometry-same arcs others same (ObjectAt e es) (ObjectAt f fs) seen are =
      then-same (geometry_header (ObjectAt e es)) (geometry_header (ObjectAt f fs)) (λ name.
      of_kind arcs name (ObjectAt e es) es (collection_of arcs es) seen) (λ name.
      of_kind others name (ObjectAt f fs) fs (collection_of others fs) seen)
      (header-same (ObjectAt e es) (ObjectAt f fs) are)
      (λ name. kind-same arcs others name (ObjectAt e es) (ObjectAt f fs) es fs (collection_of arcs es) (collection_of others fs) seen same
      are (collection-same arcs others same es fs seen are))
  geometry-same arcs others same (ObjectAt e es) u seen are = absurd are
  geometry-same arcs others same t u seen are = tt

  collection-same : (arcs others : List (List Place)) → SameSteps arcs others → (es fs : Entries) (seen : Seen) → EntriesAlike es fs
      → SameOk (collection_of arcs es seen) (collection_of others fs seen)
  collection-same arcs others same NoEntries NoEntries seen are = refl
  collection-same arcs others same NoEntries (NextEntry f name u fs) seen are = absurd are
  collection-same arcs others same (NextEntry e word t es) NoEntries seen are = absurd are
  collection-same arcs others same (NextEntry e word t es) (NextEntry f name u fs) seen are =
      word-choice word name (codes "geometries") (geometry_list arcs t seen) (geometry_list others u seen) (collection_of arcs es seen)
      (collection_of others fs seen) are.0 (list-same arcs others same t u seen are.1)
      (collection-same arcs others same es fs seen are.2)

  list-same : (arcs others : List (List Place)) → SameSteps arcs others → (t u : Tree) (seen : Seen) → Alike t u
      → SameOk (geometry_list arcs t seen) (geometry_list others u seen)
  list-same arcs others same (ListAt e ts) (ListAt f us) seen are = geometries-same arcs others same ts us seen are
  list-same arcs others same (ListAt e ts) u seen are = absurd are
  list-same arcs others same t u seen are = tt

  geometries-same : (arcs others : List (List Place)) → SameSteps arcs others → (ts us : Trees) (seen : Seen) → AreAlike ts us
      → SameOk (geometries_of arcs ts seen) (geometries_of others us seen)
  geometries-same arcs others same NoTrees NoTrees seen are = refl
  geometries-same arcs others same NoTrees (NextTree u us) seen are = absurd are
  geometries-same arcs others same (NextTree t ts) NoTrees seen are = absurd are
  geometries-same arcs others same (NextTree t ts) (NextTree u us) seen are =
      then-same (geometry_of arcs t seen) (geometry_of others u seen) (geometries_of arcs ts) (geometries_of others us)
      (geometry-same arcs others same t u seen are.0) (λ now. geometries-same arcs others same ts us now are.1)

members-same : (arcs others : List (List Place)) → SameSteps arcs others → (es fs : Entries) (seen : Seen) → EntriesAlike es fs
    → SameOk (objects_from arcs es seen) (objects_from others fs seen)
members-same arcs others same NoEntries NoEntries seen are = refl
members-same arcs others same NoEntries (NextEntry f name u fs) seen are = absurd are
members-same arcs others same (NextEntry e word t es) NoEntries seen are = absurd are
members-same arcs others same (NextEntry e word t es) (NextEntry f name u fs) seen are =
    then-same (geometry_of arcs t seen) (geometry_of others u seen) (objects_from arcs es) (objects_from others fs)
    (geometry-same arcs others same t u seen are.1) (λ now. members-same arcs others same es fs now are.2)

pub objects-same : (arcs others : List (List Place)) → SameSteps arcs others → (t u : Tree) (seen : Seen) → Alike t u
    → SameOk (objects_of arcs t seen) (objects_of others u seen)
objects-same arcs others same (ObjectAt e es) (ObjectAt f fs) seen are = members-same arcs others same es fs seen are
objects-same arcs others same (ObjectAt e es) u seen are = absurd are
objects-same arcs others same t u seen are = tt
