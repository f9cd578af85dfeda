-- One arc more stays on the grid, and at the end all do.
use Rattle.std.proofs.Common.{All, List, [], sym, subst, arith}
use Rattle.std.proofs.lemmas.List.{take_all}
use Rattle.std.proofs.lemmas.List.Elements.{All-more}
use Rattle.std.proofs.lemmas.Option.{get_or_from_slice_get}
use Rattle.grid_exact.specs.Geometry.{Place}
use Rattle.grid_exact.specs.Weights.{StaysOnGrid}
use Rattle.worked_runs.proofs.parts.stays_on_grid.Goals as goal

pub loop-arc-preserved : goal.loop-arc-preserved
loop-arc-preserved c =
    let arcs = c.args.map.now.arcs in
    let here = get_or_from_slice_get arcs c.loop-arc.arc c.arc.result.now [] c.arc.ensures.value in
    All-more (All (StaysOnGrid c.args.weights)) arcs c.loop-arc.arc [] (omega arith) c.loop-arc.invariant
    (subst (λ (ps : List Place). All (StaysOnGrid c.args.weights) ps) (sym here) c.in-None.ensures)

pub returns : goal.returns
returns c = λ _.
    let arcs = c.args.map.now.arcs in
    subst (λ (pss : List (List Place)). All (All (StaysOnGrid c.args.weights)) pss) (take_all c.loop-arc.arc arcs (omega arith))
    c.loop-arc.invariant
