use Rattle.std.proofs.Common.{◌≤◌}
use Rattle.layer_paths.proofs.heads.lowest_layer.Given as goal

abbrev pub invariant-loop-layer : goal.invariant-loop-layer
invariant-loop-layer l = l.layer ≤ l.top

abbrev pub decreases-loop-layer : goal.decreases-loop-layer
decreases-loop-layer l = l.layer
