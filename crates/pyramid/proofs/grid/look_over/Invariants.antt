use Rattle.std.proofs.Common.{All, take}
use Rattle.grid_exact.specs.Weights.{StaysOnGrid}
use Rattle.pyramid.specs.Levels.{ones}
use Rattle.pyramid.proofs.grid.look_over.Given as goal

abbrev pub invariant-loop-arc : goal.invariant-loop-arc
invariant-loop-arc l = All (All (StaysOnGrid ones)) (take l.arc l.map.arcs)
