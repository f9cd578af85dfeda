-- The law of the text of a built topology.
use Rattle.std.specs.Prelude.{◌≡◌, ◌≤◌, ℕ, ℤ, List, Ok, IsUtf8}
use Rattle.arc_map.specs.Map.{Map, IsMap}
use Rattle.json_scan.specs.Grammar.{Document, IsJson, value_depth, document_nodes}
use Rattle.json_scan.specs.Tree.{document_tree}
use Rattle.topo_writer.specs.Reading.{ReadsAs}
use Rattle.topo_build.specs.Built.{IsBuilt}
use Rattle.geo_reader.specs.Geo.{Geo}
use Rattle.geo_reader.specs.GeoJson.{geojson_of}
use Rattle.geo_text.specs.BuiltText.{built_text_of}

-- The text of the topology that was built from a text no deeper than 60 reads as the built map.
abbrev pub BuiltTextReads : Type 0
BuiltTextReads = (input : List ℕ) (d : Document) (geo : Geo) (m : Map) (rings : List (List ℤ)) → IsUtf8 input
    → IsJson 64 input (document_nodes d) d → value_depth d.value ≤ 60 → geojson_of (document_tree d) ≡ Ok geo → IsMap m
    → IsBuilt geo m rings
    → ReadsAs (built_text_of input (document_tree d) rings geo.points m) m
