-- What is told is that of the run over the coverage.
use Rattle.std.proofs.Common.{◌∙◌, List, ℕ, ap, subst}
use Rattle.std.proofs.lemmas.Result.{err_from_is_err_and}
use Rattle.arc_map.specs.Map.{Map}
use Rattle.top_call.specs.declared.forms.Options.{Options}
use Rattle.top_call.specs.Maps.{IsRefused, topology_in}
use Rattle.top_call.specs.Answers.{plain, position_count, demo_text}
use Rattle.top_call.proofs.Demoed.{demoed_by}
use Rattle.top_call.proofs.NotRefused.{made_wants_memory}
use Rattle.top_call.proofs.demo.demo.Goals as goal

pub returns-in_err-loaded-clause-status : goal.returns-in_err-loaded-clause-status
returns-in_err-loaded-clause-status c =
    let p = err_from_is_err_and c.from_residual-in_err-loaded.result c.from_residual-in_err-loaded.ensures.1 in
    let by_plain =
    subst (λ (o : Options). IsRefused o c.deref.result.now c.in_err-loaded.field-0.0) c.no_options-options.ensures
    c.in_err-loaded.ensures.refused in
    rw (p.1, p.2) (made_wants_memory c.args.rows c.args.cols c.args.seed c.in_err-loaded.field-0.0 c.requires
    (subst (λ (text : List ℕ). IsRefused plain text c.in_err-loaded.field-0.0)
    (c.deref.ensures.value ∙ c.in_ok-text.ensures.made) by_plain))

pub returns-clause-written : goal.returns-clause-written
returns-clause-written c =
    demoed_by c.args.rows c.args.cols c.args.seed c.args.bound c.in_ok-lines_of.field-0.items c.deref.result.now c.no_options-options.result
    (topology_in c.in_ok-loaded.loaded) c.in_ok-loaded.loaded.partly.held
    c.in_ok-outcome.outcome.map.map c.in_ok-outcome.outcome.records.entries c.weights_of.result c.count.result
    c.position_count-before.result
    c.no_options-options.ensures (c.deref.ensures.value ∙ c.in_ok-text.ensures.made) c.in_ok-loaded.ensures.loaded c.weights_of.ensures
    c.in_ok-outcome.ensures.outcome
    c.count.ensures.value (c.position_count-before.ensures ∙ ap position_count c.map.ensures.same)
    (c.in_ok-lines_of.ensures ∙ ap (λ (m : Map). demo_text m c.count.result c.position_count-before.result) c.map-map.ensures.same)
