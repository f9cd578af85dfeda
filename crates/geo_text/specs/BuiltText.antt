-- The text of the topology that was built from GeoJSON: the values of the input once more, where rings are written as the references
-- that they were built of, and all is compact but for the values of `id` and `properties`, which stand as they were.
use Rattle.std.specs.Prelude.{ℕ, ℤ, Bool, true, false, List, [], ◌++◌, codes, bytes_eq, if◌then◌else◌, Option, None, Some}
use Rattle.grid_exact.specs.Geometry.{Place}
use Rattle.arc_map.specs.Map.{Map}
use Rattle.json_scan.specs.Tree.{Tree, NullAt, ListAt, ObjectAt, Trees, NoTrees, NextTree, Entries, NoEntries, NextEntry}
use Rattle.json_scan.specs.Parts.{is_text, members_in}
use Rattle.topo_writer.specs.ArcsText.{arcs_text_of}
use Rattle.geo_text.specs.declared.shape.Shape.{Shape}
use Rattle.geo_text.specs.declared.shape.Shape.TheVariants as shape
use Rattle.geo_text.specs.Shapes.{bytes_in, value_in, shape_of, type_text}
use Rattle.geo_text.specs.Drafts.{Draft, written, where_some, with_ring, with_point, with_comma, list_added}

-- ---- geometries

-- a member of the text: its label, and what its value adds
abbrev pub member : List ℕ → (Tree → Draft → Draft) → Tree → Draft → Draft
member label value t d = value t (written label d)

-- what a geometry of a shape holds, where a collection holds what its members do
abbrev pub contents_of : Shape → Entries → (Draft → Draft) → Draft → Draft
contents_of shape.Nothing members collected d = d
contents_of shape.Point members collected d =
    where_some (value_in (codes "coordinates") members) (member (codes ",\"coordinates\":") (λ t. with_point)) d
contents_of shape.MultiPoint members collected d =
    where_some (value_in (codes "coordinates") members) (member (codes ",\"coordinates\":") (list_added (λ t. with_point))) d
contents_of shape.Polygon members collected d =
    where_some (value_in (codes "coordinates") members) (member (codes ",\"arcs\":") (list_added (λ t. with_ring))) d
contents_of shape.MultiPolygon members collected d =
    where_some (value_in (codes "coordinates") members) (member (codes ",\"arcs\":") (list_added (list_added (λ t. with_ring)))) d
contents_of shape.GeometryCollection members collected d =
    where_some (value_in (codes "geometries") members) (member (codes ",\"geometries\":") (λ t. collected)) d

-- `{"type":` and what it is
abbrev pub opened : Tree → Draft → Draft
opened t d = written (type_text (shape_of t)) (written (codes "{\"type\":") d)

abbrev mutual
  -- what a geometry holds
  pub contents : Tree → Draft → Draft
  contents (ObjectAt e members) d = contents_of (shape_of (ObjectAt e members)) members (collected members) d
  contents t d = d

  -- the geometries of the first member of this name
  pub collected : Entries → Draft → Draft
  collected NoEntries d = d
  collected (NextEntry e word t others) d = if bytes_eq word (codes "geometries") then geometry_list t d else collected others d

  pub geometry_list : Tree → Draft → Draft
  geometry_list (ListAt e trees) d = written (codes "]") (geometries true trees (written (codes "[") d))
  geometry_list t d = d

  pub geometries : Bool → Trees → Draft → Draft
  geometries first NoTrees d = d
  geometries first (NextTree t others) d = geometries false others (written (codes "}") (contents t (opened t (with_comma first d))))

abbrev pub geometry : Tree → Draft → Draft
geometry t d = written (codes "}") (contents t (opened t d))

-- ---- features

abbrev pub as_it_stands : List ℕ → Tree → Draft → Draft
as_it_stands input t = written (bytes_in input t)

abbrev pub if_object : (Tree → Draft → Draft) → Tree → Draft → Draft
if_object add t = where_some (members_in t) (λ object. add t)

-- the `id` of a feature, and its `properties` where they are an Object
abbrev pub attributes : List ℕ → Entries → Draft → Draft
attributes input members d =
    where_some (value_in (codes "properties") members) (if_object (member (codes ",\"properties\":") (as_it_stands input)))
    (where_some (value_in (codes "id") members) (member (codes ",\"id\":") (as_it_stands input)) d)

-- a feature of this geometry
abbrev pub feature_of : List ℕ → Entries → Tree → Draft → Draft
feature_of input members t d = written (codes "}") (contents t (attributes input members (opened t d)))

abbrev pub feature_in : List ℕ → Entries → Draft → Draft
feature_in input members = where_some (value_in (codes "geometry") members) (feature_of input members)

abbrev pub feature : List ℕ → Tree → Draft → Draft
feature input t = where_some (members_in t) (λ object. feature_in input object.1)

-- ---- the whole

-- one entry, in a list of its own
abbrev pub alone : (Draft → Draft) → Draft → Draft
alone add d = written (codes "]") (add (written (codes "[") d))

-- an entry for each feature of a collection, or one for a feature or a geometry
abbrev pub by_type : List ℕ → Tree → Entries → Tree → Draft → Draft
by_type input t members type =
    if is_text (codes "FeatureCollection") type then where_some (value_in (codes "features") members) (list_added (feature input))
    else if is_text (codes "Feature") type then alone (feature_in input members)
    else alone (geometry t)

abbrev pub entries_in : List ℕ → Tree → Entries → Draft → Draft
entries_in input t members = where_some (value_in (codes "type") members) (by_type input t members)

abbrev pub entries : List ℕ → Tree → Draft → Draft
entries input t = where_some (members_in t) (λ object. entries_in input t object.1)

unfoldable pub head : List ℕ
head = codes "{\"type\":\"Topology\",\"objects\":{\"features\":{\"type\":\"GeometryCollection\",\"geometries\":"

abbrev pub nothing_written : List (List ℤ) → List Place → Draft
nothing_written rings points = record { text = []; rings = rings; points = points }

-- the topology of the value of a text, with the text of the arcs
abbrev pub topology : List ℕ → Tree → List ℕ → Draft → Draft
topology input t arcs d =
    written (codes "}") (written arcs (written (codes "}},\"arcs\":") (entries input t (written head d))))

abbrev pub built_text_of : List ℕ → Tree → List (List ℤ) → List Place → Map → List ℕ
built_text_of input t rings points map = (topology input t (arcs_text_of map) (nothing_written rings points)).text
