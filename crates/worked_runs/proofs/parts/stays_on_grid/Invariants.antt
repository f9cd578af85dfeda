use Rattle.std.proofs.Common.{All, take}
use Rattle.grid_exact.specs.Weights.{StaysOnGrid}
use Rattle.worked_runs.proofs.parts.stays_on_grid.Given as goal

abbrev pub invariant-loop-arc : goal.invariant-loop-arc
invariant-loop-arc l = All (All (StaysOnGrid l.weights)) (take l.arc l.map.arcs)
