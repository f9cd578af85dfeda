-- What holds of all that is read.
use Rattle.std.specs.Prelude.{codes}
use Rattle.std.proofs.Common.{◌≡◌, ℕ, ◌-◌, ◌≤◌, ◌^◌, Bool, true, false, bytes_eq, List, [], ◌∷◌, ◌++◌}
use Rattle.std.proofs.Common.{length, Result, Ok, refl, ap, subst, arith}
use Rattle.std.proofs.lemmas.List.{length-append}
use Rattle.std.proofs.lemmas.List.Elements.{All-nil}
use Rattle.std.proofs.lemmas.List.Sums.{sum_by_push}
use Rattle.grid_exact.specs.Geometry.{Place}
use Rattle.json_scan.specs.Tree.{Tree, NullAt, FalseAt, TrueAt, NumberAt, TextAt, ListAt, ObjectAt, Trees, NoTrees, NextTree, Entries}
use Rattle.json_scan.specs.Tree.{NoEntries, NextEntry}
use Rattle.json_scan.specs.Parts.{is_text}
use Rattle.topo_reader.specs.Sequence.{and_then, each}
use Rattle.topo_reader.proofs.ArcLaws.{not-ok, same-ok, then-ok}
use Rattle.topo_reader.proofs.GeometryLaws.{either-ok, each-keeps}
use Rattle.geo_reader.specs.declared.fault.GeoFault.{GeoFault}
use Rattle.geo_reader.specs.declared.geometry.Geometry.{Geometry}
use Rattle.geo_reader.specs.declared.geometry.Geometry.TheVariants as geometry
use Rattle.geo_reader.specs.Geo.{Geo, no_geo, IsRing, IsGeo}
use Rattle.geo_reader.specs.Steps.{list_of, object_of, required}
use Rattle.geo_reader.specs.Rings.{position_at, parts_added}
use Rattle.geo_reader.specs.Geometries.{geometry_kind, point_added, points_added, with_points, polygon_closed, with_polygon, of_kind}
use Rattle.geo_reader.specs.Geometries.{geometry_in, geometry_of, collection_of, geometry_list, geometries_of}
use Rattle.geo_reader.specs.GeoJson.{feature_type, geometry_or_null, id_of, properties_of, feature_in, feature_of, features_in, by_type}
use Rattle.geo_reader.specs.GeoJson.{geojson_in}
use Rattle.geo_reader.proofs.RingLaws.{below-ok, AreRings, ring-keeps, parts-keep, parts-more}

-- ---- points

point-keeps : (t : Tree) (before after : List Place) → length before ≤ 2 ^ 20 → point_added t before ≡ Ok after → length after ≤ 2 ^ 20
point-keeps t before after few h =
    let step = below-ok (length before) (2 ^ 20) _ _ after h in
    let placed = then-ok (position_at t) (λ p. Ok (before ++ p ∷ [])) after step.1 in
    let same = ap length (same-ok (before ++ placed.0 ∷ []) after placed.2) in
    omega (arith, step.0, length-append before (placed.0 ∷ []), same)

points-keep : (t : Tree) (before after : List Place) → length before ≤ 2 ^ 20 → points_added t before ≡ Ok after → length after ≤ 2 ^ 20
points-keep t before after few h =
    let listed = then-ok (list_of t) (λ trees. each point_added trees before) after h in
    each-keeps (λ (l : List Place). length l ≤ 2 ^ 20) point_added point-keeps listed.0 before after few listed.2

with_points-keeps : (added : Tree → List Place → Result (List Place) GeoFault) (t : Tree) (members : Entries) (geo after : Geo)
    → ((value : Tree) (before now : List Place) → length before ≤ 2 ^ 20 → added value before ≡ Ok now → length now ≤ 2 ^ 20)
    → IsGeo geo → with_points added t members geo ≡ Ok after → IsGeo after
with_points-keeps added t members geo after keeps is h =
    let value = then-ok (required (codes "coordinates") t members)
    (λ value. and_then (added value geo.points) (λ points. Ok (record geo { points = points }))) after h in
    let step = then-ok (added value.0 geo.points) (λ points. Ok (record geo { points = points })) after value.2 in
    subst IsGeo (same-ok (record geo { points = step.0 }) after step.2) (record {
      rings = is.rings;
      shared = is.shared;
      few_positions = is.few_positions;
      few_points = keeps value.0 geo.points step.0 is.few_points step.1;
      few_polygons = is.few_polygons;
    })

-- ---- polygons

with_polygon-keeps : (several : Bool) (t : Tree) (members : Entries) (geo after : Geo) → IsGeo geo
    → with_polygon (parts_added several) t members geo ≡ Ok after → IsGeo after
with_polygon-keeps several t members geo after is h =
    let counted = below-ok (length geo.polygons) (2 ^ 20) _ _ after h in
    let value = then-ok (required (codes "coordinates") t members)
    (λ value. and_then (parts_added several value geo.rings) (λ rings. Ok (polygon_closed geo rings))) after counted.1 in
    let read = then-ok (parts_added several value.0 geo.rings) (λ rings. Ok (polygon_closed geo rings)) after value.2 in
    let are = parts-keep AreRings ring-keeps several value.0 geo.rings read.0 (record { each = is.rings; few = is.few_positions }) read.1 in
    let more = parts-more several value.0 geo.rings read.0 read.1 in
    let its = length read.0 - length geo.rings in
    subst IsGeo (same-ok (polygon_closed geo read.0) after read.2) (record {
      rings = are.each;
      shared = omega (arith, more, is.shared, sum_by_push (λ (n : ℕ). n) geo.polygons its);
      few_positions = are.few;
      few_points = is.few_points;
      few_polygons = omega (arith, counted.0, length-append geo.polygons (its ∷ []));
    })

-- ---- geometries

kind-keeps : (kind : Geometry) (t : Tree) (members : Entries) (collected : Geo → Result Geo GeoFault) (geo after : Geo)
    → (collected geo ≡ Ok after → IsGeo after) → IsGeo geo → of_kind kind t members collected geo ≡ Ok after → IsGeo after
kind-keeps geometry.Point t members collected geo after keeps is h = with_points-keeps point_added t members geo after point-keeps is h
kind-keeps geometry.MultiPoint t members collected geo after keeps is h =
    with_points-keeps points_added t members geo after points-keep is h
kind-keeps geometry.Polygon t members collected geo after keeps is h = with_polygon-keeps false t members geo after is h
kind-keeps geometry.MultiPolygon t members collected geo after keeps is h = with_polygon-keeps true t members geo after is h
kind-keeps geometry.GeometryCollection t members collected geo after keeps is h =
    let value = then-ok (required (codes "geometries") t members) (λ value. collected geo) after h in
    keeps value.2

in-keeps : (t : Tree) (members : Entries) (collected : Geo → Result Geo GeoFault) (geo after : Geo)
    → (collected geo ≡ Ok after → IsGeo after)
    → IsGeo geo → geometry_in t members collected geo ≡ Ok after → IsGeo after
in-keeps t members collected geo after keeps is h =
    let named = then-ok (geometry_kind t members) (λ kind. of_kind kind t members collected geo) after h in
    kind-keeps named.0 t members collected geo after keeps is named.2

mutual
  geometry-keeps : (t : Tree) (geo after : Geo) → IsGeo geo → geometry_of t geo ≡ Ok after → IsGeo after
  geometry-keeps (NullAt e) geo after is h = not-ok _ after h
  geometry-keeps (FalseAt e) geo after is h = not-ok _ after h
  geometry-keeps (TrueAt e) geo after is h = not-ok _ after h
  geometry-keeps (NumberAt e whole) geo after is h = not-ok _ after h
  geometry-keeps (TextAt e word) geo after is h = not-ok _ after h
  geometry-keeps (ListAt e trees) geo after is h = not-ok _ after h
  geometry-keeps (ObjectAt e members) geo after is h =
      in-keeps (ObjectAt e members) members (collection_of members) geo after
      (λ collected. collection-keeps members geo after is collected) is h

  collection-keeps : (members : Entries) (geo after : Geo) → IsGeo geo → collection_of members geo ≡ Ok after → IsGeo after
  collection-keeps NoEntries geo after is h = subst IsGeo (same-ok geo after h) is
  collection-keeps (NextEntry e word t others) geo after is h =
      either-ok (bytes_eq word (codes "geometries")) _ _ after h (λ here. list-keeps t geo after is here)
      (λ further. collection-keeps others geo after is further)

  list-keeps : (t : Tree) (geo after : Geo) → IsGeo geo → geometry_list t geo ≡ Ok after → IsGeo after
  list-keeps (NullAt e) geo after is h = not-ok _ after h
  list-keeps (FalseAt e) geo after is h = not-ok _ after h
  list-keeps (TrueAt e) geo after is h = not-ok _ after h
  list-keeps (NumberAt e whole) geo after is h = not-ok _ after h
  list-keeps (TextAt e word) geo after is h = not-ok _ after h
  list-keeps (ListAt e trees) geo after is h = geometries-keep trees geo after is h
  list-keeps (ObjectAt e members) geo after is h = not-ok _ after h

  geometries-keep : (trees : Trees) (geo after : Geo) → IsGeo geo → geometries_of trees geo ≡ Ok after → IsGeo after
  geometries-keep NoTrees geo after is h = subst IsGeo (same-ok geo after h) is
  geometries-keep (NextTree t others) geo after is h =
      let step = then-ok (geometry_of t geo) (geometries_of others) after h in
      geometries-keep others step.0 after (geometry-keeps t geo step.0 is step.1) step.2

-- ---- features

null-keeps : (t : Tree) (geo after : Geo) → IsGeo geo → geometry_or_null t geo ≡ Ok after → IsGeo after
null-keeps (NullAt e) geo after is h = subst IsGeo (same-ok geo after h) is
null-keeps (FalseAt e) geo after is h = geometry-keeps (FalseAt e) geo after is h
null-keeps (TrueAt e) geo after is h = geometry-keeps (TrueAt e) geo after is h
null-keeps (NumberAt e whole) geo after is h = geometry-keeps (NumberAt e whole) geo after is h
null-keeps (TextAt e word) geo after is h = geometry-keeps (TextAt e word) geo after is h
null-keeps (ListAt e trees) geo after is h = geometry-keeps (ListAt e trees) geo after is h
null-keeps (ObjectAt e members) geo after is h = geometry-keeps (ObjectAt e members) geo after is h

feature_in-keeps : (t : Tree) (members : Entries) (geo after : Geo) → IsGeo geo → feature_in t members geo ≡ Ok after → IsGeo after
feature_in-keeps t members geo after is h =
    let type = then-ok (required (codes "type") t members) _ after h in
    let named = then-ok (feature_type type.0) _ after type.2 in
    let value = then-ok (required (codes "geometry") t members) _ after named.2 in
    let read = then-ok (geometry_or_null value.0 geo) _ after value.2 in
    let id = then-ok (id_of members) _ after read.2 in
    let properties = then-ok (properties_of members) _ after id.2 in
    subst IsGeo (same-ok read.0 after properties.2) (null-keeps value.0 geo read.0 is read.1)

feature-keeps : (t : Tree) (geo after : Geo) → IsGeo geo → feature_of t geo ≡ Ok after → IsGeo after
feature-keeps t geo after is h =
    let object = then-ok (object_of t) (λ object. feature_in object.0 object.1 geo) after h in
    feature_in-keeps object.0.0 object.0.1 geo after is object.2

features-keep : (t : Tree) (members : Entries) (geo after : Geo) → IsGeo geo → features_in t members geo ≡ Ok after → IsGeo after
features-keep t members geo after is h =
    let value = then-ok (required (codes "features") t members)
    (λ value. and_then (list_of value) (λ trees. each feature_of trees geo)) after h in
    let listed = then-ok (list_of value.0) (λ trees. each feature_of trees geo) after value.2 in
    each-keeps IsGeo feature_of feature-keeps listed.0 geo after is listed.2

-- ---- the walk

no-geo : IsGeo no_geo
no-geo = record {
  rings = All-nil IsRing;
  shared = refl;
  few_positions = omega arith;
  few_points = omega arith;
  few_polygons = omega arith;
}

type-keeps : (type t : Tree) (members : Entries) (geo after : Geo) → IsGeo geo → by_type type t members geo ≡ Ok after → IsGeo after
type-keeps type t members geo after is h =
    either-ok (is_text (codes "FeatureCollection") type) _ _ after h (λ e. features-keep t members geo after is e)
    (λ e. either-ok (is_text (codes "Feature") type) _ _ after e (λ f. feature_in-keeps t members geo after is f)
    (λ f. in-keeps t members (collection_of members) geo after (λ collected. collection-keeps members geo after is collected) is f))

-- all that a text holds is within the limits
pub geojson-is : (t : Tree) (members : Entries) (after : Geo) → geojson_in t members no_geo ≡ Ok after → IsGeo after
geojson-is t members after h =
    let type = then-ok (required (codes "type") t members) (λ type. by_type type t members no_geo) after h in
    type-keeps type.0 t members no_geo after no-geo type.2
