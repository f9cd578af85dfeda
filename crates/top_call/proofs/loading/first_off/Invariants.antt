-- The weights take no position of the arcs so far off the grid.
use Rattle.std.proofs.Common.{ℕ, ◌<◌, [], get_or, All}
use Rattle.grid_exact.specs.Weights.{StaysOnGrid}
use Rattle.top_call.proofs.loading.first_off.Given as goal

abbrev pub invariant-loop-arc : goal.invariant-loop-arc
invariant-loop-arc l = (k : ℕ) → k < l.arc → All (StaysOnGrid l.weights) (get_or l.map.arcs k [])
