-- The line that tells a status.
use Rattle.std.specs.Prelude.{ℕ, List, [], ◌++◌, codes, decimal}
use Rattle.arc_map.specs.declared.refs.EdgeRef.{EdgeRef}
use Rattle.geo_reader.specs.declared.fault.GeoKind.{GeoKind}
use Rattle.geo_reader.specs.declared.fault.GeoKind.TheVariants as geos
use Rattle.topo_reader.specs.declared.fault.ShapeKind.{ShapeKind}
use Rattle.topo_reader.specs.declared.fault.ShapeKind.TheVariants as shapes
use Rattle.topo_reader.specs.declared.fault.OffKind.{OffKind}
use Rattle.topo_reader.specs.declared.fault.OffKind.TheVariants as offs
use Rattle.topo_reader.specs.declared.fault.What.{What}
use Rattle.topo_reader.specs.declared.fault.What.TheVariants as whats
use Rattle.top_call.specs.declared.status.Role.{Role}
use Rattle.top_call.specs.declared.status.Role.TheVariants.{File, Out, Cert}
use Rattle.top_call.specs.declared.status.Limit.{Limit}
use Rattle.top_call.specs.declared.status.Limit.TheVariants.{Text, Depth, Many}
use Rattle.top_call.specs.declared.status.Meeting.{Meeting}
use Rattle.top_call.specs.declared.status.Meeting.TheVariants.{Edges, PointOnArc}
use Rattle.top_call.specs.declared.status.Status.{Status}
use Rattle.top_call.specs.declared.status.Status.TheVariants.{Done, No, Usage, NotUtf8, NotJson, NotTopology, OffProfile, TooLarge}
use Rattle.top_call.specs.declared.status.Status.TheVariants.{NotArranged, ReadFault, WriteFault, NoMemory, OffWeights, NoPolygon}
use Rattle.top_call.specs.declared.status.Status.TheVariants.{NotGeoJson}

abbrev pub shape_words : ShapeKind → List ℕ
shape_words shapes.NotObject = codes "not an object"
shape_words shapes.Missing = codes "missing member"
shape_words shapes.Twice = codes "member twice"
shape_words shapes.WrongType = codes "wrong type"
shape_words shapes.ShortArc = codes "short arc"
shape_words shapes.BadTransform = codes "bad transform"
shape_words shapes.BadArcIndex = codes "bad arc index"
shape_words shapes.Unjoined = codes "unjoined"
shape_words shapes.OpenRing = codes "open ring"
shape_words shapes.UnknownGeometry = codes "unknown geometry"

abbrev pub geo_words : GeoKind → List ℕ
geo_words geos.NotObject = codes "not an object"
geo_words geos.Missing = codes "missing member"
geo_words geos.Twice = codes "member twice"
geo_words geos.WrongType = codes "wrong type"
geo_words geos.UnknownType = codes "unknown type"
geo_words geos.ShortRing = codes "short ring"
geo_words geos.OpenRing = codes "open ring"

abbrev pub off_words : OffKind → List ℕ
off_words offs.NotWhole = codes "not whole"
off_words offs.Extra = codes "extra number"
off_words offs.OffGrid = codes "off the grid"

abbrev pub what_words : What → List ℕ
what_words whats.Arcs = codes "arcs"
what_words whats.Positions = codes "positions"
what_words whats.Points = codes "points"
what_words whats.Polygons = codes "polygons"
what_words whats.References = codes "references"

abbrev pub role_words : Role → List ℕ
role_words File = codes "FILE"
role_words Out = codes "OUT"
role_words Cert = codes "CERT"

abbrev pub limit_line : Limit → List ℕ
limit_line (Text role) = codes "too large: " ++ role_words role ++ codes "\n"
limit_line (Depth at) = codes "too large: depth at " ++ decimal at ++ codes "\n"
limit_line (Many what at) = codes "too large: " ++ what_words what ++ codes " at " ++ decimal at ++ codes "\n"

abbrev pub edges_line : EdgeRef → EdgeRef → List ℕ
edges_line e f =
    codes "arc " ++ decimal e.arc ++ codes " edge " ++ decimal e.at ++ codes " meets arc " ++ decimal f.arc ++ codes " edge "
    ++ decimal f.at ++ codes "\n"

abbrev pub point_line : ℕ → EdgeRef → List ℕ
point_line point e =
    codes "point " ++ decimal point ++ codes " lies on arc " ++ decimal e.arc ++ codes " edge " ++ decimal e.at ++ codes "\n"

abbrev pub meeting_line : Meeting → List ℕ
meeting_line (Edges e f) = edges_line e f
meeting_line (PointOnArc point e) = point_line point e

abbrev pub off_weights_line : ℕ → ℕ → List ℕ
off_weights_line arc position =
    codes "weights take arc " ++ decimal arc ++ codes " position " ++ decimal position ++ codes " off the grid\n"

abbrev pub no_polygon_line : ℕ → List ℕ
no_polygon_line polygon = codes "no polygon " ++ decimal polygon ++ codes "\n"

unfoldable pub usage_line : List ℕ
usage_line =
    codes "usage: simplify [--hold] [--weights WX WY] E FILE, layers [--hold] [--weights WX WY] E FILE, "
    ++ codes "check [--hold] [--weights WX WY] E FILE OUT CERT, faces FILE, make R C SEED, demo R C SEED E, "
    ++ codes "dissolve LIST FILE, build FILE, pyramid BOUNDS FILE\n"

-- the line that tells a status; `Done` and `No` have none
abbrev pub message_of : Status → List ℕ
message_of Done = []
message_of (No reason) = []
message_of Usage = usage_line
message_of (NotUtf8 at) = codes "text is not UTF-8 at " ++ decimal at ++ codes "\n"
message_of (NotJson at) = codes "text is not JSON at " ++ decimal at ++ codes "\n"
message_of (NotTopology kind at) = codes "not a topology: " ++ shape_words kind ++ codes " at " ++ decimal at ++ codes "\n"
message_of (OffProfile kind at) = codes "outside the profile: " ++ off_words kind ++ codes " at " ++ decimal at ++ codes "\n"
message_of (TooLarge limit) = limit_line limit
message_of (NotArranged meeting) = meeting_line meeting
message_of ReadFault = codes "reading failed\n"
message_of WriteFault = codes "writing failed\n"
message_of NoMemory = codes "no memory\n"
message_of (OffWeights arc position) = off_weights_line arc position
message_of (NoPolygon polygon) = no_polygon_line polygon
message_of (NotGeoJson kind at) = codes "not GeoJSON: " ++ geo_words kind ++ codes " at " ++ decimal at ++ codes "\n"
