-- The layers so far have no vertex.
use Rattle.std.proofs.Common.{◌≡◌, ℕ, ◌<◌, length, slice_index}
use Rattle.layer_paths.proofs.heads.empty_heads.Given as goal

abbrev pub invariant-loop-layer : goal.invariant-loop-layer
invariant-loop-layer l = record {
  empty : (k : ℕ) → k < l.layer → slice_index l.heads.items k ≡ l.past;
  length_stays : length l.heads.items ≡ length l.initial.heads.items;
}
