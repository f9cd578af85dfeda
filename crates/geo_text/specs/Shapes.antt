-- What a geometry is, and the values that its text is made of.
use Rattle.std.specs.Prelude.{ℕ, List, Option, None, Some, take, drop, codes, if◌then◌else◌}
use Rattle.json_scan.specs.Tree.{Tree, ListAt, ObjectAt, Trees, Entries, Lookup, NowhereIn, OnceIn, TwiceIn, lookup, extent_of}
use Rattle.json_scan.specs.Parts.{is_text, members_in}
use Rattle.geo_text.specs.declared.shape.Shape.{Shape}
use Rattle.geo_text.specs.declared.shape.Shape.TheVariants as shape

-- the bytes of a value, as they stand in the text
abbrev pub bytes_in : List ℕ → Tree → List ℕ
bytes_in text t = drop (extent_of t).start (take (extent_of t).end text)

abbrev pub once : Lookup → Option Tree
once NowhereIn = None
once (OnceIn t) = Some t
once (TwiceIn e) = None

-- the value of a member that stands once
abbrev pub value_in : List ℕ → Entries → Option Tree
value_in name members = once (lookup name members)

-- ---- what a geometry is

-- by the value of its `type`
abbrev pub named_shape : Tree → Shape
named_shape t =
    if is_text (codes "Point") t then shape.Point
    else if is_text (codes "MultiPoint") t then shape.MultiPoint
    else if is_text (codes "Polygon") t then shape.Polygon
    else if is_text (codes "MultiPolygon") t then shape.MultiPolygon
    else if is_text (codes "GeometryCollection") t then shape.GeometryCollection
    else shape.Nothing

abbrev pub found_shape : Option Tree → Shape
found_shape None = shape.Nothing
found_shape (Some t) = named_shape t

abbrev pub shape_in : Option (Tree × Entries) → Shape
shape_in None = shape.Nothing
shape_in (Some object) = found_shape (value_in (codes "type") object.1)

abbrev pub shape_of : Tree → Shape
shape_of t = shape_in (members_in t)

-- the value of `type` that is written
abbrev pub type_text : Shape → List ℕ
type_text shape.Nothing = codes "null"
type_text shape.Point = codes "\"Point\""
type_text shape.MultiPoint = codes "\"MultiPoint\""
type_text shape.Polygon = codes "\"Polygon\""
type_text shape.MultiPolygon = codes "\"MultiPolygon\""
type_text shape.GeometryCollection = codes "\"GeometryCollection\""
