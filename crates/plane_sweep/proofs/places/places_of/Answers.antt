use Rattle.std.proofs.Common.{subst}
use Rattle.plane_sweep.specs.Places.{ContainsAll}
use Rattle.plane_sweep.proofs.Placing.{highs_sorted, ok_then}
use Rattle.plane_sweep.proofs.places.places_of.Goals as goal

pub returns : goal.returns
returns c =
    ok_then c.distinct.result c.distinct.ensures
    (λ kept all. highs_sorted c.args.spans.now c.in_ok-places.places.items c.sort_unstable_by.new.self.items kept.items
    c.sort_unstable_by.ensures.permutation (subst (λ xs. ContainsAll xs kept.items) c.deref.ensures.value all) c.in_ok-places.ensures)
