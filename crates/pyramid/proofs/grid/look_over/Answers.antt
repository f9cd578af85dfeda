-- One arc more is on the grid.
use Rattle.std.proofs.Common.{All, List, sym, subst, arith}
use Rattle.std.proofs.lemmas.List.{take_all}
use Rattle.std.proofs.lemmas.Option.{get_or_from_slice_get}
use Rattle.std.proofs.lemmas.List.Elements.{All-more}
use Rattle.grid_exact.specs.Geometry.{Place}
use Rattle.grid_exact.specs.Weights.{StaysOnGrid}
use Rattle.pyramid.specs.Levels.{ones}
use Rattle.pyramid.proofs.grid.look_over.Goals as goal

pub loop-arc-preserved : goal.loop-arc-preserved
loop-arc-preserved c =
    let here = sym (get_or_from_slice_get c.args.map.now.arcs c.loop-arc.arc c.arc.result.now c.arc.result.now c.arc.ensures.value) in
    All-more (All (StaysOnGrid ones)) c.args.map.now.arcs c.loop-arc.arc c.arc.result.now (omega arith) c.loop-arc.invariant
    (subst (λ (ps : List Place). All (StaysOnGrid ones) ps) here c.look_along.ensures)

pub returns : goal.returns
returns c = subst (λ (arcs : List (List Place)). All (All (StaysOnGrid ones)) arcs)
    (take_all c.loop-arc.arc c.args.map.now.arcs (omega arith)) c.loop-arc.invariant
