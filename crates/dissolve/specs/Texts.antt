-- The text of rings as a geometry of TopoJSON.
use Rattle.std.specs.Prelude.{ℕ, ℤ, List, ◌++◌, codes, map}
use Rattle.std.specs.Fmt.{signed_decimal}
use Rattle.topo_writer.specs.Texts.{list_text}

abbrev pub ring_text : List ℤ → List ℕ
ring_text ring = list_text (map signed_decimal ring)

unfoldable pub rings_text : List (List ℤ) → List ℕ
rings_text rings = codes "{\"type\":\"MultiLineString\",\"arcs\":" ++ list_text (map ring_text rings) ++ codes "}"
