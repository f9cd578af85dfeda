-- Each arc stays on the grid.
use Rattle.std.proofs.Common.{List, [], get_or, subst, All, arith}
use Rattle.std.proofs.lemmas.List.{get_or_default}
use Rattle.grid_exact.specs.Geometry.{Place}
use Rattle.grid_exact.specs.Weights.{StaysOnGrid}
use Rattle.top_call.proofs.loading.first_off.Goals as goal

pub returns-clause-value : goal.returns-clause-value
returns-clause-value c = λ k d within.
    let arcs = c.args.map.now.arcs in
    let stays : All (StaysOnGrid c.args.weights) (get_or arcs k []) = c.loop-arc.invariant k (omega arith) in
    subst (λ (arc : List Place). All (StaysOnGrid c.args.weights) arc) (get_or_default arcs k [] d within) stays
