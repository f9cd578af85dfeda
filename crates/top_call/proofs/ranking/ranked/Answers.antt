-- The map is arranged, and the ranks are those by the bounds of the list; or the text is refused.
use Rattle.std.proofs.Common.{◌∙◌}
use Rattle.std.proofs.lemmas.Result.{err_from_is_err_and}
use Rattle.top_call.specs.Words.{bounds_in}
use Rattle.top_call.specs.Maps.{topology_in}
use Rattle.top_call.proofs.Ranked.{loaded_is_arranged, ranked_by, refused_plain}
use Rattle.top_call.proofs.ranking.ranked.Goals as goal

pub returns-in_err-partly-clause-refused : goal.returns-in_err-partly-clause-refused
returns-in_err-partly-clause-refused c =
    let p = err_from_is_err_and c.from_residual.result c.from_residual.ensures.1 in
    rw (p.1, p.2) (refused_plain c.no_options.result c.args.text.now c.in_err-partly.field-0.0 c.no_options.ensures
    c.in_err-partly.ensures.refused)

pub ranks_text-requires-clause-arranged : goal.ranks_text-requires-clause-arranged
ranks_text-requires-clause-arranged c =
    loaded_is_arranged c.no_options.result c.args.text.now (topology_in c.in_ok-partly.field-0) c.in_ok-partly.field-0.partly.held
    c.into_map.result
    c.no_options.ensures c.in_ok-partly.ensures.loaded c.into_map.ensures

pub returns-clause-written : goal.returns-clause-written
returns-clause-written c =
    ranked_by c.no_options.result (bounds_in c.args.list.now) c.args.text.now
    (topology_in c.in_ok-partly.field-0) c.in_ok-partly.field-0.partly.held c.into_map.result
    c.deref.result.now c.in_ok-ranks_text.field-0.items c.no_options.ensures c.in_ok-partly.ensures.loaded c.into_map.ensures
    (c.deref.ensures.value ∙ c.in_ok-bounds.ensures.bounds) c.in_ok-ranks_text.ensures
