-- What a text of GeoJSON holds, or its first fault: a walk over its tree, in order.
use Rattle.std.specs.Prelude.{Bool, true, false, Option, None, Some, Result, Ok, codes, if◌then◌else◌}
use Rattle.json_scan.specs.Tree.{Tree, NullAt, NumberAt, TextAt, ObjectAt, Entries, lookup}
use Rattle.json_scan.specs.Parts.{is_text}
use Rattle.topo_reader.specs.Sequence.{and_then, each}
use Rattle.geo_reader.specs.declared.fault.GeoFault.{GeoFault}
use Rattle.geo_reader.specs.declared.fault.GeoKind.TheVariants as shape
use Rattle.geo_reader.specs.Geo.{Geo, no_geo}
use Rattle.geo_reader.specs.Steps.{wrong, list_of, object_of, optional, required}
use Rattle.geo_reader.specs.Geometries.{geometry_of, geometry_in, collection_of}

-- ---- features

abbrev pub feature_type : Tree → Result Bool GeoFault
feature_type t = if is_text (codes "Feature") t then Ok true else wrong shape.UnknownType t

-- all so far, and what the value of `geometry` adds; Null holds nothing
abbrev pub geometry_or_null : Tree → Geo → Result Geo GeoFault
geometry_or_null (NullAt e) geo = Ok geo
geometry_or_null t geo = geometry_of t geo

abbrev pub is_id : Tree → Bool
is_id (TextAt e word) = true
is_id (NumberAt e number) = true
is_id t = false

abbrev pub is_null_or_object : Tree → Bool
is_null_or_object (NullAt e) = true
is_null_or_object (ObjectAt e members) = true
is_null_or_object t = false

-- where a value stands, it is of such a type
abbrev pub of_type : (Tree → Bool) → Option Tree → Result (Option Tree) GeoFault
of_type fits None = Ok None
of_type fits (Some t) = if fits t then Ok (Some t) else wrong shape.WrongType t

abbrev pub id_of : Entries → Result (Option Tree) GeoFault
id_of members = and_then (optional (lookup (codes "id") members)) (of_type is_id)

abbrev pub properties_of : Entries → Result (Option Tree) GeoFault
properties_of members = and_then (optional (lookup (codes "properties") members)) (of_type is_null_or_object)

-- what the feature of an Object adds: its geometry is walked before `id` is looked for, and that before `properties`
abbrev pub feature_in : Tree → Entries → Geo → Result Geo GeoFault
feature_in t members geo =
    and_then (required (codes "type") t members) (λ type.
    and_then (feature_type type) (λ named.
    and_then (required (codes "geometry") t members) (λ value.
    and_then (geometry_or_null value geo) (λ read.
    and_then (id_of members) (λ id.
    and_then (properties_of members) (λ properties.
    Ok read))))))

-- all so far, and what a feature adds
abbrev pub feature_of : Tree → Geo → Result Geo GeoFault
feature_of t geo = and_then (object_of t) (λ object. feature_in object.0 object.1 geo)

-- ---- the walk

abbrev pub features_in : Tree → Entries → Geo → Result Geo GeoFault
features_in t members geo =
    and_then (required (codes "features") t members) (λ value.
    and_then (list_of value) (λ trees.
    each feature_of trees geo))

-- a collection of features, a feature, or else a geometry, by the value of `type`
abbrev pub by_type : Tree → Tree → Entries → Geo → Result Geo GeoFault
by_type type t members geo =
    if is_text (codes "FeatureCollection") type then features_in t members geo
    else if is_text (codes "Feature") type then feature_in t members geo
    else geometry_in t members (collection_of members) geo

abbrev pub geojson_in : Tree → Entries → Geo → Result Geo GeoFault
geojson_in t members geo = and_then (required (codes "type") t members) (λ type. by_type type t members geo)

abbrev pub geojson_of : Tree → Result Geo GeoFault
geojson_of (ObjectAt e members) = geojson_in (ObjectAt e members) members no_geo
geojson_of t = wrong shape.NotObject t
