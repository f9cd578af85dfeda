use Rattle.std.proofs.Common.{All, take}
use Rattle.grid_exact.specs.Weights.{StaysOnGrid}
use Rattle.pyramid.specs.Levels.{ones}
use Rattle.pyramid.proofs.grid.look_along.Given as goal

abbrev pub invariant-loop-position : goal.invariant-loop-position
invariant-loop-position l = All (StaysOnGrid ones) (take l.position-index l.positions)
