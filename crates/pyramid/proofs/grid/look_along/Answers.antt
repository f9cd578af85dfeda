-- One position more is on the grid.
use Rattle.std.proofs.Common.{All, List, subst, arith}
use Rattle.std.proofs.lemmas.List.{take_all}
use Rattle.std.proofs.lemmas.List.Elements.{All-more}
use Rattle.grid_exact.specs.Geometry.{Place}
use Rattle.grid_exact.specs.Weights.{StaysOnGrid}
use Rattle.pyramid.specs.Levels.{ones}
use Rattle.pyramid.proofs.grid.look_along.Goals as goal

pub loop-position-preserved : goal.loop-position-preserved
loop-position-preserved c =
    All-more (StaysOnGrid ones) c.args.positions.now c.loop-position.position-index c.position-item.result (omega arith)
    c.loop-position.invariant
    (subst (StaysOnGrid ones) c.position-item.is c.look_at.ensures)

pub returns : goal.returns
returns c = subst (λ (ps : List Place). All (StaysOnGrid ones) ps)
    (take_all c.loop-position.position-index c.args.positions.now (omega arith)) c.loop-position.invariant
