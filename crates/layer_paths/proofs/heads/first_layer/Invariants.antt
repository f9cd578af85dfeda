-- No layer so far has its least vertex up to `reach`.
use Rattle.std.proofs.Common.{ℕ, ◌-◌, ◌<◌, ◌≤◌, slice_index}
use Rattle.layer_paths.proofs.heads.first_layer.Given as goal

abbrev pub invariant-loop-layer : goal.invariant-loop-layer
invariant-loop-layer l = record {
  low : l.least ≤ l.layer;
  high : l.layer ≤ l.top;
  none : (k : ℕ) → l.least ≤ k → k < l.layer → l.reach < slice_index l.heads k;
}

abbrev pub decreases-loop-layer : goal.decreases-loop-layer
decreases-loop-layer l = l.top - l.layer
