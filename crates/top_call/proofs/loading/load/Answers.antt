-- Each step that refuses the text says why.
use Rattle.std.proofs.Common.{sym}
use Rattle.std.proofs.lemmas.Option.{none-some}
use Rattle.std.proofs.lemmas.Result.{err_from_is_err_and}
use Rattle.topo_reader.specs.TopologyIs.{topology_read}
use Rattle.top_call.proofs.Refusals.{text_refused, off_grid, unarranged, stays_by}
use Rattle.top_call.proofs.loading.load.Goals as goal

pub returns-in_err-topology-clause-refused : goal.returns-in_err-topology-clause-refused
returns-in_err-topology-clause-refused c =
    let p = err_from_is_err_and c.from_residual.result c.from_residual.ensures.1 in
    rw (p.1, p.2) (text_refused c.args.options.now c.args.text.now _ c.in_err-topology.ensures.refused)

pub returns-in-Some-clause-refused : goal.returns-in-Some-clause-refused
returns-in-Some-clause-refused c =
    off_grid c.args.options.now c.args.text.now (topology_read c.in_ok-topology.topology) c.weights_of.result _ _
    c.in_ok-topology.ensures.read c.weights_of.ensures
    (λ ones. none-some _ (sym (c.in-Some.ensures.ones ones))) c.in-Some.ensures.value

pub returns-in_err-partly-clause-refused : goal.returns-in_err-partly-clause-refused
returns-in_err-partly-clause-refused c =
    let p = err_from_is_err_and c.from_residual-in_err-partly.result c.from_residual-in_err-partly.ensures.1 in
    rw (p.1, p.2) (unarranged c.args.options.now c.args.text.now (topology_read c.in_ok-topology.topology) _ c.in_ok-topology.ensures.read
    (stays_by c.args.options.now c.weights_of.result c.in_ok-topology.topology.map c.weights_of.ensures c.in_default.ensures.value)
    c.in_err-partly.ensures.refused)
