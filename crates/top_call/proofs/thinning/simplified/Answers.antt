-- The text that was written is that of the run.
use Rattle.top_call.specs.Maps.{topology_in}
use Rattle.top_call.proofs.Certified.{simplified_by}
use Rattle.top_call.proofs.thinning.simplified.Goals as goal

pub returns-clause-written : goal.returns-clause-written
returns-clause-written c =
    simplified_by c.args.options.now c.args.bound c.args.text.now c.in_ok-put_back.field-0.items
    (topology_in c.in_ok-partly.field-0) c.in_ok-partly.field-0.partly.held
    c.in_ok-outcome.outcome.map.map c.map.result.now c.in_ok-outcome.outcome.records.entries c.weights_of.result
    c.in_ok-partly.ensures.loaded c.in_ok-outcome.ensures.outcome c.weights_of.ensures c.map.ensures.same c.in_ok-put_back.ensures.value
