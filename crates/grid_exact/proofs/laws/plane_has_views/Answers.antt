-- Each view is a lemma.
use Rattle.grid_exact.proofs.Views.{plain_view, turned_view, negated_view, view_of_view}
use Rattle.grid_exact.proofs.laws.plane_has_views.Goals as goal

pub returns : goal.returns
returns c = record { as_it_is = plain_view; exchanged = turned_view; half_round = negated_view; one_after_another = view_of_view }
