-- The laws of written texts.
use Rattle.std.specs.Prelude.{◌≡◌, ℕ, List, Ok, IsUtf8}
use Rattle.arc_map.specs.Map.{Map}
use Rattle.json_scan.specs.Grammar.{Document, IsJson, document_nodes}
use Rattle.json_scan.specs.Tree.{document_tree}
use Rattle.topo_reader.specs.Reads.{TopologyRead, topology_of}
use Rattle.topo_writer.specs.ArcsText.{arcs_text_of}
use Rattle.topo_writer.specs.Fits.{FitsIn}
use Rattle.topo_writer.specs.Reading.{ReadsAs}
use Rattle.topo_writer.specs.Splice.{spliced}

-- A text that is a topology, with the text of the arcs of a map that fits in it in the place of the value of `arcs`, reads as
-- that map.
abbrev pub SplicedReadsBack : Type 0
SplicedReadsBack = (text : List ℕ) (d : Document) (t : TopologyRead) (new : Map) → IsUtf8 text → IsJson 64 text (document_nodes d) d
    → topology_of (document_tree d) ≡ Ok t → FitsIn t.map new
    → ReadsAs (spliced text t.arcs_at.start t.arcs_at.end (arcs_text_of new)) new
