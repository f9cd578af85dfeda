-- Geometries: points, polygons and collections.
use Rattle.std.specs.Prelude.{ℕ, ◌-◌, ◌^◌, List, [], ◌∷◌, ◌++◌, length, Option, None, Some, Result, Ok, codes, bytes_eq}
use Rattle.std.specs.Prelude.{if◌then◌else◌}
use Rattle.grid_exact.specs.Geometry.{Place}
use Rattle.json_scan.specs.Tree.{Tree, TextAt, ListAt, ObjectAt, Trees, NoTrees, NextTree, Entries, NoEntries, NextEntry}
use Rattle.topo_reader.specs.declared.fault.What.TheVariants as what
use Rattle.topo_reader.specs.Sequence.{and_then, each}
use Rattle.geo_reader.specs.declared.fault.GeoFault.{GeoFault}
use Rattle.geo_reader.specs.declared.fault.GeoKind.TheVariants as shape
use Rattle.geo_reader.specs.declared.geometry.Geometry.{Geometry}
use Rattle.geo_reader.specs.declared.geometry.Geometry.TheVariants as geometry
use Rattle.geo_reader.specs.Geo.{Geo}
use Rattle.geo_reader.specs.Steps.{wrong, counted, list_of, required}
use Rattle.geo_reader.specs.Rings.{position_at, polygon_added, polygons_added}

-- ---- names

abbrev pub text_geometry : List ℕ → Option Geometry
text_geometry word =
    if bytes_eq word (codes "Point") then Some geometry.Point
    else if bytes_eq word (codes "MultiPoint") then Some geometry.MultiPoint
    else if bytes_eq word (codes "Polygon") then Some geometry.Polygon
    else if bytes_eq word (codes "MultiPolygon") then Some geometry.MultiPolygon
    else if bytes_eq word (codes "GeometryCollection") then Some geometry.GeometryCollection
    else None

abbrev pub named_by : Tree → Option Geometry
named_by (TextAt e word) = text_geometry word
named_by t = None

abbrev pub named_geometry : Tree → Option Geometry → Result Geometry GeoFault
named_geometry t None = wrong shape.UnknownType t
named_geometry t (Some name) = Ok name

-- what a geometry is, by its `type`
abbrev pub geometry_kind : Tree → Entries → Result Geometry GeoFault
geometry_kind t members = and_then (required (codes "type") t members) (λ value. named_geometry value (named_by value))

-- ---- points

-- the points so far, and one more
abbrev pub point_added : Tree → List Place → Result (List Place) GeoFault
point_added t points =
    counted what.Points (2 ^ 20) (length points) t (
    and_then (position_at t) (λ p.
    Ok (points ++ p ∷ [])))

abbrev pub points_added : Tree → List Place → Result (List Place) GeoFault
points_added t points = and_then (list_of t) (λ trees. each point_added trees points)

-- what the coordinates of a Point or MultiPoint add
abbrev pub with_points : (Tree → List Place → Result (List Place) GeoFault) → Tree → Entries → Geo → Result Geo GeoFault
with_points added t members geo =
    and_then (required (codes "coordinates") t members) (λ value.
    and_then (added value geo.points) (λ points.
    Ok (record geo { points = points })))

-- ---- polygons

-- with the rings now, of which those that were not there are of one polygon more
abbrev pub polygon_closed : Geo → List (List Place) → Geo
polygon_closed geo rings = record geo { rings = rings; polygons = geo.polygons ++ (length rings - length geo.rings) ∷ [] }

-- what a Polygon or MultiPolygon adds: it is counted at its geometry, before its coordinates are looked for
abbrev pub with_polygon : (Tree → List (List Place) → Result (List (List Place)) GeoFault) → Tree → Entries → Geo → Result Geo GeoFault
with_polygon added t members geo =
    counted what.Polygons (2 ^ 20) (length geo.polygons) t (
    and_then (required (codes "coordinates") t members) (λ value.
    and_then (added value geo.rings) (λ rings.
    Ok (polygon_closed geo rings))))

-- ---- geometries

-- what a geometry of a kind adds, where a collection adds what its members do
abbrev pub of_kind : Geometry → Tree → Entries → (Geo → Result Geo GeoFault) → Geo → Result Geo GeoFault
of_kind geometry.Point t members collected geo = with_points point_added t members geo
of_kind geometry.MultiPoint t members collected geo = with_points points_added t members geo
of_kind geometry.Polygon t members collected geo = with_polygon polygon_added t members geo
of_kind geometry.MultiPolygon t members collected geo = with_polygon polygons_added t members geo
of_kind geometry.GeometryCollection t members collected geo =
    and_then (required (codes "geometries") t members) (λ value. collected geo)

-- what the geometry of an Object adds
abbrev pub geometry_in : Tree → Entries → (Geo → Result Geo GeoFault) → Geo → Result Geo GeoFault
geometry_in t members collected geo = and_then (geometry_kind t members) (λ kind. of_kind kind t members collected geo)

abbrev mutual
  -- all so far, and what a geometry adds
  pub geometry_of : Tree → Geo → Result Geo GeoFault
  geometry_of (ObjectAt e members) geo = geometry_in (ObjectAt e members) members (collection_of members) geo
  geometry_of t geo = wrong shape.WrongType t

  -- the geometries of the first member of this name
  pub collection_of : Entries → Geo → Result Geo GeoFault
  collection_of NoEntries geo = Ok geo
  collection_of (NextEntry e word t others) geo =
      if bytes_eq word (codes "geometries") then geometry_list t geo else collection_of others geo

  pub geometry_list : Tree → Geo → Result Geo GeoFault
  geometry_list (ListAt e trees) geo = geometries_of trees geo
  geometry_list t geo = wrong shape.WrongType t

  pub geometries_of : Trees → Geo → Result Geo GeoFault
  geometries_of NoTrees geo = Ok geo
  geometries_of (NextTree t others) geo = and_then (geometry_of t geo) (geometries_of others)

-- a collection adds what the geometries of its member do
abbrev pub collection_geometry : Tree → Entries → Geo → Result Geo GeoFault
collection_geometry t members geo = and_then (required (codes "geometries") t members) (λ value. collection_of members geo)
