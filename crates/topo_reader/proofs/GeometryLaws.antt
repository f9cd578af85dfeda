-- What holds of the points and polygons that are read: they are within the limits, and polygons name arcs.
use Rattle.std.specs.Prelude.{codes}
use Rattle.std.proofs.Common.{◌≡◌, ℕ, ◌+◌, ◌<◌, ◌≤◌, ◌^◌, Bool, true, false, bytes_eq, Option, Some, None, List, [], ◌∷◌, ◌++◌, length}
use Rattle.std.proofs.Common.{sum_by, All, Result, Ok, pos, negsuc, cond, refl, ap, subst, arith}
use Rattle.std.specs.Prelude.{slice_get, option_map}
use Rattle.std.proofs.lemmas.Option.{slice_get_within}
use Rattle.std.proofs.lemmas.List.{length-append}
use Rattle.std.proofs.lemmas.List.Elements.{All-nil, All-push}
use Rattle.std.proofs.lemmas.List.Sums.{sum_by_push}
use Rattle.grid_exact.specs.Geometry.{Place}
use Rattle.json_scan.specs.declared.whole.Whole.TheVariants as whole
use Rattle.json_scan.specs.Tree.{Tree, NullAt, FalseAt, TrueAt, NumberAt, TextAt, ListAt, ObjectAt, Trees, NoTrees, NextTree, Entries}
use Rattle.json_scan.specs.Tree.{NoEntries, NextEntry}
use Rattle.topo_reader.specs.declared.fault.ReadFault.{ReadFault}
use Rattle.topo_reader.specs.declared.fault.What.TheVariants as what
use Rattle.topo_reader.specs.declared.line.Step.{Step}
use Rattle.topo_reader.specs.declared.geometry.Geometry.{Geometry}
use Rattle.topo_reader.specs.declared.geometry.Geometry.TheVariants as geometry
use Rattle.topo_reader.specs.Sequence.{and_then, each, list_of, required}
use Rattle.topo_reader.specs.Positions.{position_of, origin}
use Rattle.topo_reader.specs.Geometries.{Seen, nothing_seen, point_added, points_added, with_points, forwards, backwards, found_step}
use Rattle.topo_reader.specs.Geometries.{step_of, Line, no_line, with_step, joined, line_from, line_of, lines_of}
use Rattle.topo_reader.specs.Geometries.{PolygonRead, ring_of, rings_from, rings_of, polygons_from, polygons_of, with_polygon, polygon_of}
use Rattle.topo_reader.specs.Geometries.{with_references, geometry_header, of_kind, geometry_of, collection_of, geometry_list}
use Rattle.topo_reader.specs.Geometries.{geometries_of, objects_from, objects_of}
use Rattle.arc_map.specs.Map.{IsArc}
use Rattle.topo_reader.specs.Ends.{HasEvenEnds}
use Rattle.topo_reader.proofs.EndLaws.{joined-fits, ring-line, ring-even}
use Rattle.topo_reader.proofs.ArcLaws.{not-ok, same-ok, then-ok, counted-ok}

-- ---- walks that end well

pub either-ok : {A F P : Type 0} (b : Bool) (x y : Result A F) (a : A) → cond b x y ≡ Ok a → (x ≡ Ok a → P) → (y ≡ Ok a → P)
    → P
either-ok true x y a h f g = f h
either-ok false x y a h f g = g h

pub each-keeps : {S F : Type 0} (P : S → Type 0) (one : Tree → S → Result S F)
    → ((t : Tree) (before after : S) → P before → one t before ≡ Ok after → P after) → (trees : Trees) (before after : S) → P before
    → each one trees before ≡ Ok after → P after
each-keeps P one keeps NoTrees before after is h = subst P (same-ok before after h) is
each-keeps P one keeps (NextTree t others) before after is h =
    let step = then-ok (one t before) (each one others) after h in
    each-keeps P one keeps others step.0 after (keeps t before step.0 is step.1) step.2

-- ---- points

point-keeps : (t : Tree) (before after : List Place) → length before ≤ 2 ^ 20 → point_added t before ≡ Ok after → length after ≤ 2 ^ 20
point-keeps t before after few h =
    let step = counted-ok what.Points (2 ^ 20) (length before) t _ after h in
    let placed = then-ok (position_of origin t) (λ p. Ok (before ++ p ∷ [])) after step.1 in
    let same = same-ok (before ++ placed.0 ∷ []) after placed.2 in
    omega (arith, step.0, length-append before (placed.0 ∷ []), ap length same)

-- ---- arcs by their numbers

within : (arcs : List (List Place)) (t : Tree) (k : ℕ) (make : ℕ → List Place → Step) → ((arc : List Place) → (make k arc).arc ≡ k)
    → (o : Option (List Place)) → slice_get arcs k ≡ o → (step : Step) → found_step t (option_map (make k) o) ≡ Ok step
    → step.arc < length arcs
within arcs t k make named None e step h = not-ok _ step h
within arcs t k make named (Some arc) e step h =
    let same = ap (λ (s : Step). s.arc) (same-ok (make k arc) step h) in
    omega (arith, slice_get_within arcs k arc e, named arc, same)

step-within : (arcs : List (List Place)) (t : Tree) (step : Step) → step_of arcs t ≡ Ok step → step.arc < length arcs
step-within arcs (NumberAt e whole.NotWhole) step h = not-ok _ step h
step-within arcs (NumberAt e whole.Beyond) step h = not-ok _ step h
step-within arcs (NumberAt e (whole.Value (pos k))) step h =
    within arcs (NumberAt e (whole.Value (pos k))) k forwards (λ arc. refl) (slice_get arcs k) refl step h
step-within arcs (NumberAt e (whole.Value (negsuc k))) step h =
    within arcs (NumberAt e (whole.Value (negsuc k))) k backwards (λ arc. refl) (slice_get arcs k) refl step h
step-within arcs (NullAt e) step h = not-ok _ step h
step-within arcs (FalseAt e) step h = not-ok _ step h
step-within arcs (TrueAt e) step h = not-ok _ step h
step-within arcs (TextAt e word) step h = not-ok _ step h
step-within arcs (ListAt e trees) step h = not-ok _ step h
step-within arcs (ObjectAt e members) step h = not-ok _ step h

-- ---- lines and rings

-- numbers of arcs, where others were counted before
pub record AreNamed (n others : ℕ) (numbers : List ℕ) (references : ℕ) : Type 0 where
  pub below : All (λ k. k < n) numbers
  pub long : length numbers + others ≤ references
  pub few : references ≤ 2 ^ 22

line-keeps : (arcs : List (List Place)) (others : ℕ) (trees : Trees) (before after : Line)
    → AreNamed (length arcs) others before.numbers before.references → line_from arcs trees before ≡ Ok after
    → AreNamed (length arcs) others after.numbers after.references
line-keeps arcs others NoTrees before after are h =
    subst (λ (l : Line). AreNamed (length arcs) others l.numbers l.references) (same-ok before after h) are
line-keeps arcs others (NextTree t more) before after are h =
    let counted = counted-ok what.References (2 ^ 22) before.references t _ after h in
    let found = then-ok (step_of arcs t) (λ step. and_then (joined t before step) (line_from arcs more)) after counted.1 in
    let fits = then-ok (joined t before found.0) (line_from arcs more) after found.2 in
    let next : AreNamed (length arcs) others (with_step before found.0).numbers (with_step before found.0).references =
    record {
      below = All-push (λ k. k < length arcs) before.numbers found.0.arc are.below (step-within arcs t found.0 found.1);
      long = omega (arith, are.long, length-append before.numbers (found.0.arc ∷ []));
      few = omega (arith, counted.0);
    }
    in
    line-keeps arcs others more fits.0 after
    (subst (λ (l : Line). AreNamed (length arcs) others l.numbers l.references) (joined-fits t before found.0 fits.0 fits.1).1 next) fits.2

-- a polygon so far, where others were counted before
record IsPolygon (arcs : List (List Place)) (others : ℕ) (polygon : PolygonRead) : Type 0 where
  named : AreNamed (length arcs) others polygon.numbers polygon.references
  even : HasEvenEnds arcs polygon.numbers

ring-keeps : (arcs : List (List Place)) (every : All IsArc arcs) (others : ℕ) (t : Tree) (before after : PolygonRead)
    → IsPolygon arcs others before → ring_of arcs t before ≡ Ok after → IsPolygon arcs others after
ring-keeps arcs every others t before after are h =
    let ring = ring-line arcs t before after h in
    let named = line-keeps arcs others ring.trees (no_line before.numbers before.references) ring.line are.named ring.walked in
    record {
      named = subst (λ (n : ℕ). AreNamed (length arcs) others after.numbers n) ring.references_are
          (subst (λ (ns : List ℕ). AreNamed (length arcs) others ns ring.line.references) ring.numbers_are named);
      even = ring-even arcs every t before after are.even h;
    }

rings-keep : (arcs : List (List Place)) (every : All IsArc arcs) (others : ℕ) (t : Tree) (before after : PolygonRead)
    → IsPolygon arcs others before → rings_of arcs t before ≡ Ok after → IsPolygon arcs others after
rings-keep arcs every others t before after are h =
    let listed = then-ok (list_of t) (λ trees. rings_from arcs trees before) after h in
    each-keeps (IsPolygon arcs others) (ring_of arcs) (ring-keeps arcs every others) listed.0 before after are listed.2

polygons-keep : (arcs : List (List Place)) (every : All IsArc arcs) (others : ℕ) (t : Tree) (before after : PolygonRead)
    → IsPolygon arcs others before → polygons_of arcs t before ≡ Ok after → IsPolygon arcs others after
polygons-keep arcs every others t before after are h =
    let listed = then-ok (list_of t) (λ trees. polygons_from arcs trees before) after h in
    each-keeps (IsPolygon arcs others) (rings_of arcs) (rings-keep arcs every others) listed.0 before after are listed.2

-- how many references were counted, from a count on
record IsCount (from count : ℕ) : Type 0 where
  more : from ≤ count
  few : count ≤ 2 ^ 22

line-counts : (arcs : List (List Place)) (from : ℕ) (t : Tree) (before after : ℕ) → IsCount from before → line_of arcs t before ≡ Ok after
    → IsCount from after
line-counts arcs from t before after is h =
    let listed = then-ok (list_of t) (λ trees. and_then (line_from arcs trees (no_line [] before)) (λ line. Ok line.references)) after h in
    let walked = then-ok (line_from arcs listed.0 (no_line [] before)) (λ line. Ok line.references) after listed.2 in
    let are = line-keeps arcs before listed.0 (no_line [] before) walked.0
    (record { below = All-nil (λ k. k < length arcs); long = omega arith; few = is.few }) walked.1 in
    let same = same-ok walked.0.references after walked.2 in
    record { more = omega (arith, is.more, are.long, same); few = omega (arith, are.few, same) }

-- ---- geometries

-- what was seen is within the limits, and the polygons name arcs
pub record IsSeen (arcs : List (List Place)) (seen : Seen) : Type 0 where
  pub names : All (All (λ k. k < length arcs)) seen.polygons
  pub even : All (HasEvenEnds arcs) seen.polygons
  pub few_points : length seen.points ≤ 2 ^ 20
  pub few_polygons : length seen.polygons ≤ 2 ^ 20
  pub long : sum_by length seen.polygons ≤ seen.references
  pub few : seen.references ≤ 2 ^ 22

pub nothing-seen : (arcs : List (List Place)) → IsSeen arcs nothing_seen
nothing-seen arcs =
    record {
      names = All-nil (All (λ k. k < length arcs));
      even = All-nil (HasEvenEnds arcs);
      few_points = omega arith;
      few_polygons =
          omega arith;
      long = omega arith;
      few = omega arith;
    }

points-keep : (arcs : List (List Place)) (seen after : Seen) (added : Result (List Place) ReadFault) → IsSeen arcs seen
    → ((points : List Place) → added ≡ Ok points → length points ≤ 2 ^ 20) → with_points seen added ≡ Ok after → IsSeen arcs after
points-keep arcs seen after added is few h =
    let step = then-ok added (λ points. Ok (record seen { points = points })) after h in
    subst (IsSeen arcs) (same-ok (record seen { points = step.0 }) after step.2)
    (record {
      names = is.names;
      even = is.even;
      few_points = few step.0 step.1;
      few_polygons = is.few_polygons;
      long = is.long;
      few =
          is.few;
    })

references-keep : (arcs : List (List Place)) (seen after : Seen) (counted : Result ℕ ReadFault) → IsSeen arcs seen
    → ((count : ℕ) → counted ≡ Ok count → IsCount seen.references count) → with_references seen counted ≡ Ok after → IsSeen arcs after
references-keep arcs seen after counted is counts h =
    let step = then-ok counted (λ references. Ok (record seen { references = references })) after h in
    let count = counts step.0 step.1 in
    subst (IsSeen arcs) (same-ok (record seen { references = step.0 }) after step.2)
    (record {
      names = is.names;
      even = is.even;
      few_points = is.few_points;
      few_polygons = is.few_polygons;
      long =
          omega (arith, is.long, count.more);
      few = count.few;
    })

polygon-keeps : (arcs : List (List Place)) (rings : Tree → PolygonRead → Result PolygonRead ReadFault) (t : Tree) (members : Entries)
    (seen after : Seen)
    → ((others : ℕ) (value : Tree) (before polygon : PolygonRead) → IsPolygon arcs others before → rings value before ≡ Ok polygon
    → IsPolygon arcs others polygon) → IsSeen arcs seen → polygon_of rings t members seen ≡ Ok after → IsSeen arcs after
polygon-keeps arcs rings t members seen after keeps is h =
    let start : PolygonRead = record { numbers = []; references = seen.references } in
    let counted = counted-ok what.Polygons (2 ^ 20) (length seen.polygons) t _ after h in
    let value = then-ok (required (codes "arcs") t members)
    (λ value. and_then (rings value start) (λ polygon. Ok (with_polygon seen polygon))) after counted.1 in
    let walked = then-ok (rings value.0 start) (λ polygon. Ok (with_polygon seen polygon)) after value.2 in
    let are = keeps (sum_by length seen.polygons) value.0 start walked.0
    (record {
      named = record { below = All-nil (λ k. k < length arcs); long = omega (arith, is.long); few = is.few };
      even =
          λ p. refl;
    }) walked.1 in
    subst (IsSeen arcs) (same-ok (with_polygon seen walked.0) after walked.2) (record {
      names = All-push (All (λ k. k < length arcs)) seen.polygons walked.0.numbers is.names are.named.below;
      even = All-push (HasEvenEnds arcs) seen.polygons walked.0.numbers is.even are.even;
      few_points = is.few_points;
      few_polygons = omega (arith, counted.0, length-append seen.polygons (walked.0.numbers ∷ []));
      long = omega (arith, are.named.long, sum_by_push length seen.polygons walked.0.numbers);
      few = are.named.few;
    })

kind-keeps : (arcs : List (List Place)) (every : All IsArc arcs) (name : Geometry) (t : Tree) (members : Entries)
    (collected : Seen → Result Seen ReadFault) (seen after : Seen) → (collected seen ≡ Ok after → IsSeen arcs after) → IsSeen arcs seen
    → of_kind arcs name t members collected seen ≡ Ok after → IsSeen arcs after
kind-keeps arcs every geometry.Nothing t members collected seen after keeps is h = subst (IsSeen arcs) (same-ok seen after h) is
kind-keeps arcs every geometry.Point t members collected seen after keeps is h =
    let value = then-ok (required (codes "coordinates") t members) (λ value. with_points seen (point_added value seen.points)) after h in
    points-keep arcs seen after (point_added value.0 seen.points) is
    (λ points e. point-keeps value.0 seen.points points is.few_points e) value.2
kind-keeps arcs every geometry.MultiPoint t members collected seen after keeps is h =
    let value = then-ok (required (codes "coordinates") t members)
    (λ value. and_then (list_of value) (λ trees. with_points seen (points_added trees seen.points))) after h in
    let listed = then-ok (list_of value.0) (λ trees. with_points seen (points_added trees seen.points)) after value.2 in
    points-keep arcs seen after (points_added listed.0 seen.points) is
    (λ points e. each-keeps (λ (l : List Place). length l ≤ 2 ^ 20) point_added point-keeps listed.0 seen.points points is.few_points e)
    listed.2
kind-keeps arcs every geometry.LineString t members collected seen after keeps is h =
    let value = then-ok (required (codes "arcs") t members) (λ value. with_references seen (line_of arcs value seen.references)) after h in
    references-keep arcs seen after (line_of arcs value.0 seen.references) is
    (λ count e. line-counts arcs seen.references value.0 seen.references count (record { more = omega arith; few = is.few }) e) value.2
kind-keeps arcs every geometry.MultiLineString t members collected seen after keeps is h =
    let value = then-ok (required (codes "arcs") t members)
    (λ value. and_then (list_of value) (λ trees. with_references seen (lines_of arcs trees seen.references))) after h in
    let listed = then-ok (list_of value.0) (λ trees. with_references seen (lines_of arcs trees seen.references)) after value.2 in
    references-keep arcs seen after (lines_of arcs listed.0 seen.references) is
    (λ count e. each-keeps (IsCount seen.references) (line_of arcs) (line-counts arcs seen.references) listed.0 seen.references count
    (record { more = omega arith; few = is.few }) e) listed.2
kind-keeps arcs every geometry.Polygon t members collected seen after keeps is h =
    polygon-keeps arcs (rings_of arcs) t members seen after (rings-keep arcs every) is h
kind-keeps arcs every geometry.MultiPolygon t members collected seen after keeps is h =
    polygon-keeps arcs (polygons_of arcs) t members seen after (polygons-keep arcs every) is h
kind-keeps arcs every geometry.GeometryCollection t members collected seen after keeps is h =
    let value = then-ok (required (codes "geometries") t members) (λ value. collected seen) after h in
    keeps value.2

mutual
  geometry-keeps : (arcs : List (List Place)) (every : All IsArc arcs) (t : Tree) (seen after : Seen) → IsSeen arcs seen
      → geometry_of arcs t seen ≡ Ok after → IsSeen arcs after
  geometry-keeps arcs every (NullAt e) seen after is h = not-ok _ after h
  geometry-keeps arcs every (FalseAt e) seen after is h = not-ok _ after h
  geometry-keeps arcs every (TrueAt e) seen after is h = not-ok _ after h
  geometry-keeps arcs every (NumberAt e whole) seen after is h = not-ok _ after h
  geometry-keeps arcs every (TextAt e word) seen after is h = not-ok _ after h
  geometry-keeps arcs every (ListAt e trees) seen after is h = not-ok _ after h
  geometry-keeps arcs every (ObjectAt e members) seen after is h =
      let named = then-ok (geometry_header (ObjectAt e members))
      (λ name. of_kind arcs name (ObjectAt e members) members (collection_of arcs members) seen) after h in
      kind-keeps arcs every named.0 (ObjectAt e members) members (collection_of arcs members) seen after
      (λ collected. collection-keeps arcs every members seen after is collected) is named.2

  collection-keeps : (arcs : List (List Place)) (every : All IsArc arcs) (members : Entries) (seen after : Seen) → IsSeen arcs seen
      → collection_of arcs members seen ≡ Ok after → IsSeen arcs after
  collection-keeps arcs every NoEntries seen after is h = subst (IsSeen arcs) (same-ok seen after h) is
  collection-keeps arcs every (NextEntry e word t others) seen after is h =
      either-ok (bytes_eq word (codes "geometries")) _ _ after h (λ here. list-keeps arcs every t seen after is here)
      (λ further. collection-keeps arcs every others seen after is further)

  list-keeps : (arcs : List (List Place)) (every : All IsArc arcs) (t : Tree) (seen after : Seen) → IsSeen arcs seen
      → geometry_list arcs t seen ≡ Ok after → IsSeen arcs after
  list-keeps arcs every (NullAt e) seen after is h = not-ok _ after h
  list-keeps arcs every (FalseAt e) seen after is h = not-ok _ after h
  list-keeps arcs every (TrueAt e) seen after is h = not-ok _ after h
  list-keeps arcs every (NumberAt e whole) seen after is h = not-ok _ after h
  list-keeps arcs every (TextAt e word) seen after is h = not-ok _ after h
  list-keeps arcs every (ListAt e trees) seen after is h = geometries-keep arcs every trees seen after is h
  list-keeps arcs every (ObjectAt e members) seen after is h = not-ok _ after h

  geometries-keep : (arcs : List (List Place)) (every : All IsArc arcs) (trees : Trees) (seen after : Seen) → IsSeen arcs seen
      → geometries_of arcs trees seen ≡ Ok after → IsSeen arcs after
  geometries-keep arcs every NoTrees seen after is h = subst (IsSeen arcs) (same-ok seen after h) is
  geometries-keep arcs every (NextTree t others) seen after is h =
      let step = then-ok (geometry_of arcs t seen) (geometries_of arcs others) after h in
      geometries-keep arcs every others step.0 after (geometry-keeps arcs every t seen step.0 is step.1) step.2

members-keep : (arcs : List (List Place)) (every : All IsArc arcs) (members : Entries) (seen after : Seen) → IsSeen arcs seen
    → objects_from arcs members seen ≡ Ok after → IsSeen arcs after
members-keep arcs every NoEntries seen after is h = subst (IsSeen arcs) (same-ok seen after h) is
members-keep arcs every (NextEntry e word t others) seen after is h =
    let step = then-ok (geometry_of arcs t seen) (objects_from arcs others) after h in
    members-keep arcs every others step.0 after (geometry-keeps arcs every t seen step.0 is step.1) step.2

pub objects-keep : (arcs : List (List Place)) (every : All IsArc arcs) (t : Tree) (seen after : Seen) → IsSeen arcs seen
    → objects_of arcs t seen ≡ Ok after → IsSeen arcs after
objects-keep arcs every (NullAt e) seen after is h = not-ok _ after h
objects-keep arcs every (FalseAt e) seen after is h = not-ok _ after h
objects-keep arcs every (TrueAt e) seen after is h = not-ok _ after h
objects-keep arcs every (NumberAt e whole) seen after is h = not-ok _ after h
objects-keep arcs every (TextAt e word) seen after is h = not-ok _ after h
objects-keep arcs every (ListAt e trees) seen after is h = not-ok _ after h
objects-keep arcs every (ObjectAt e members) seen after is h = members-keep arcs every members seen after is h
