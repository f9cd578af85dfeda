-- The points before this one stay on the grid.
use Rattle.std.proofs.Common.{take}
use Rattle.std.specs.Prelude.{All}
use Rattle.grid_exact.specs.Weights.{StaysOnGrid}
use Rattle.grid_exact.proofs.weights.Weights.first_off.Given as goal

abbrev pub invariant-loop-k : goal.invariant-loop-k
invariant-loop-k l = All (StaysOnGrid l.self) (take l.k l.list)
