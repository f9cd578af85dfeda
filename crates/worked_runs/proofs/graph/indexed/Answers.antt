-- The chains of an arranged map are clear.
use Rattle.std.proofs.Common.{sym, subst, ◌∙◌}
use Rattle.arc_map.specs.Arranged.{IsArranged}
use Rattle.arc_map.specs.Chains.{IsClearIn}
use Rattle.arc_map.specs.Work.{Work}
use Rattle.worked_runs.proofs.ArrangedChains.{is_clear}
use Rattle.worked_runs.proofs.graph.indexed.Goals as goal

pub returns-in-Ok-build : goal.returns-in-Ok-build
returns-in-Ok-build c k =
    let arranged = subst IsArranged (sym (c.into_map-map.ensures ∙ c.in-Ok.ensures.same)) c.in-Ok.ensures.arranged in
    subst (λ (w : Work). IsClearIn w.chains w.read.points k) (sym c.in-Ok-build.ensures)
    (is_clear c.into_map-map.result c.in-Ok-split.refs.items k c.in-Ok-split.ensures.chains arranged)
