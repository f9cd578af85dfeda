-- The text is refused, or its topology was built.
use Rattle.std.proofs.lemmas.Result.{err_from_is_err_and}
use Rattle.json_scan.specs.Tree.{document_tree}
use Rattle.top_call.proofs.BuiltTexts.{scan_refused_geo, geo_refused, built_by}
use Rattle.top_call.proofs.Refusals.{tree_found}
use Rattle.top_call.proofs.building.built.Goals as goal

pub returns-in_err-scanned-clause-refused : goal.returns-in_err-scanned-clause-refused
returns-in_err-scanned-clause-refused c =
    let p = err_from_is_err_and c.from_residual.result c.from_residual.ensures.1 in
    rw p.1 (scan_refused_geo c.args.text.now c.in_err-scanned.field-0.0 p.0 p.2 c.in_err-scanned.ensures.refused)

pub returns-in_err-geo-clause-refused : goal.returns-in_err-geo-clause-refused
returns-in_err-geo-clause-refused c =
    let p = err_from_is_err_and c.from_residual-in_err-geo.result c.from_residual-in_err-geo.ensures.1 in
    let found = c.in_ok-scanned.ensures.found in
    rw p.1 (geo_refused c.args.text.now (document_tree found.1.0) c.in_err-geo.field-0.0 p.0 p.2
    (tree_found c.in_ok-scanned.scanned.bytes c.args.text.now c.in_ok-scanned.scanned.nodes c.in_ok-scanned.ensures.text found)
    (c.in_err-geo.ensures.fault found.1.0 found.1.1))

pub returns-clause-written : goal.returns-clause-written
returns-clause-written c =
    let found = c.in_ok-scanned.ensures.found in
    let is = c.in_ok-topology.ensures in
    built_by c.args.text.now c.in_ok-built_text.field-0.items c.in_ok-scanned.scanned.bytes (document_tree found.1.0) c.in_ok-geo.geo
    c.in_ok-topology.topology.map c.in_ok-topology.topology.rings
    (tree_found c.in_ok-scanned.scanned.bytes c.args.text.now c.in_ok-scanned.scanned.nodes c.in_ok-scanned.ensures.text found)
    (c.in_ok-geo.ensures.geo found.1.0 found.1.1)
    (record { built = is.built; is_map = is.is_map; together = is.together; edges = is.edges; arranged = is.arranged })
    c.in_ok-scanned.ensures.text (c.in_ok-built_text.ensures found.1.0 found.1.1)
