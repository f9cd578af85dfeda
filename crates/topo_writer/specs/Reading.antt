-- What it means that a text reads as a map.
use Rattle.std.specs.Prelude.{◌≡◌, ℕ, List, Ok, IsUtf8}
use Rattle.arc_map.specs.Map.{Map}
use Rattle.json_scan.specs.Grammar.{Document, IsJson, document_nodes}
use Rattle.json_scan.specs.Tree.{Extent, document_tree}
use Rattle.topo_reader.specs.Reads.{topology_of}

-- the text is UTF-8 and a JSON text that is no deeper than 64, with its own nodes, and the topology that it is has this map
pub record ReadsAs (text : List ℕ) (m : Map) : Type 0 where
  pub utf8 : IsUtf8 text
  pub document : Document
  pub json : IsJson 64 text (document_nodes document) document
  pub arcs_at : Extent
  pub topology : topology_of (document_tree document) ≡ Ok (record { map = m; arcs_at = arcs_at })
