-- The walk along the run is closed by the edge back.
use Rattle.std.proofs.Common.{◌∙◌, ◌++◌, ◌∷◌, [], List, ap, append_assoc}
use Rattle.grid_exact.specs.Crossing.{is_crossed}
use Rattle.grid_exact.specs.Geometry.{Place}
use Rattle.grid_exact.specs.Walks.{count_edges, is_odd}
use Rattle.cert_checker.specs.Runs.{run_end, run_inner}
use Rattle.cert_checker.proofs.Parts.{split_last}
use Rattle.cert_checker.proofs.sides.is_crossed_oddly.Goals as goal

pub returns : goal.returns
returns c =
    let first = c.args.first in
    let rest = c.args.rest.now in
    c.is_closed_walk_crossed_oddly.ensures
    ∙ ap (λ (us : List Place). is_odd (count_edges (is_crossed c.args.p) first us))
    (ap (λ (us : List Place). us ++ first ∷ []) (split_last first rest c.requires)
    ∙ append_assoc (run_inner rest) (run_end first rest ∷ []) (first ∷ []))
