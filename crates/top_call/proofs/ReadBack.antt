-- What a run writes of a text reads back as the outcome of the run.
use Rattle.std.proofs.Common.{◌≡◌, ◌∙◌, List, Ok, ℕ, sym, ap, subst}
use Rattle.json_scan.specs.declared.node.Node.{Node}
use Rattle.json_scan.specs.Grammar.{IsJson, document_nodes}
use Rattle.json_scan.specs.Tree.{document_tree}
use Rattle.topo_reader.specs.Reads.{topology_of}
use Rattle.topo_writer.specs.Reading.{ReadsAs}
use Rattle.topo_writer.proofs.ReadsBack.{reads-back}
use Rattle.top_call.specs.Answers.{terms_of}
use Rattle.top_call.specs.Laws.{SimplifiedReadsBack}
use Rattle.top_call.proofs.OutcomeFits.{outcome_fits}
use Rattle.top_call.proofs.ReadMaps.{read_map_is_map}

pub simplified_reads_back : SimplifiedReadsBack
simplified_reads_back options bound text bytes is =
    let has = is.run.loaded.topology in
    let scanned = has.has_tree in
    let were = (read_map_is_map text is.topology has).arcs in
    let fits = outcome_fits is.topology.map (terms_of options bound is.held) is.after is.records were is.run.outcome in
    let json : IsJson 64 text (document_nodes scanned.document) scanned.document =
    subst (λ (ns : List Node). IsJson 64 text ns scanned.document) scanned.json.its_nodes scanned.json in
    let topology : topology_of (document_tree scanned.document) ≡ Ok is.topology = ap topology_of (sym scanned.is) ∙ has.reads in
    record {
      reads = subst (λ (l : List ℕ). ReadsAs l is.after) (sym is.written)
          (reads-back text scanned.document is.topology is.after scanned.utf8 json topology fits);
      points = fits.points;
      polygons = fits.polygons;
      coded = fits.coded;
    }
