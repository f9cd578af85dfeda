-- The certificate that was written is that of the run.
use Rattle.std.proofs.Common.{◌∙◌}
use Rattle.top_call.specs.Maps.{topology_in}
use Rattle.top_call.proofs.Certified.{certified_by}
use Rattle.top_call.proofs.WithinLimits.{version_allowed}
use Rattle.top_call.proofs.thinning.certified.Goals as goal

pub returns-clause-written : goal.returns-clause-written
returns-clause-written c =
    certified_by c.args.options.now c.args.bound c.args.text.now c.in_ok-write.field-0.items
    (topology_in c.in_ok-partly.field-0) c.in_ok-partly.field-0.partly.held c.held.result.now _ _
    c.weights_of-weights.result c.version_of-version.result c.in_ok-partly.ensures.loaded c.in_ok-outcome.ensures.outcome
    c.weights_of-weights.ensures c.version_of-version.ensures
    (c.held.ensures ∙ c.in_ok-outcome.ensures.held) c.in_ok-write.ensures

pub write-requires : goal.write-requires
write-requires c =
    version_allowed c.args.options.now c.in_ok-partly.field-0.partly.map c.in_ok-partly.field-0.partly.held c.held.result.now
    c.weights_of-weights.result c.version_of-version.result
    c.version_of-version.ensures c.weights_of-weights.ensures (c.held.ensures ∙ c.in_ok-outcome.ensures.held)
    c.in_ok-partly.ensures.loaded.beside
