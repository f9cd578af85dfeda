-- The status of the refusal, or of the fault.
use Rattle.std.proofs.lemmas.Result.{err_from_is_err_and}
use Rattle.json_scan.specs.Tree.{document_tree}
use Rattle.top_call.proofs.Refusals.{scan_refused, fault_refused, tree_found}
use Rattle.top_call.proofs.loading.topology_in.Goals as goal

pub returns-in_err-scanned-clause-refused : goal.returns-in_err-scanned-clause-refused
returns-in_err-scanned-clause-refused c =
    let p = err_from_is_err_and c.from_residual.result c.from_residual.ensures.1 in
    rw p.1 (scan_refused c.args.text.now c.in_err-scanned.field-0.0 p.0 p.2 c.in_err-scanned.ensures.refused)

pub returns-in_err-read-clause-refused : goal.returns-in_err-read-clause-refused
returns-in_err-read-clause-refused c =
    let p = err_from_is_err_and c.from_residual-in_err-read.result c.from_residual-in_err-read.ensures.1 in
    let found = c.in_ok-scanned.ensures.found in
    rw p.1 (fault_refused c.args.text.now (document_tree found.1.0) c.in_err-read.field-0.0 p.0 p.2
    (tree_found c.in_ok-scanned.scanned.bytes c.args.text.now c.in_ok-scanned.scanned.nodes c.in_ok-scanned.ensures.text found)
    (c.in_err-read.ensures.fault found.1.0 found.1.1))

pub returns-clause-read : goal.returns-clause-read
returns-clause-read c =
    let found = c.in_ok-scanned.ensures.found in
    record {
      tree = document_tree found.1.0;
      has_tree = tree_found c.in_ok-scanned.scanned.bytes c.args.text.now c.in_ok-scanned.scanned.nodes c.in_ok-scanned.ensures.text found;
      reads = c.in_ok-read.ensures.topology found.1.0 found.1.1;
    }
