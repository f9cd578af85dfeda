use Rattle.std.proofs.Common.{◌≡◌, ◌<◌, ℕ, [], ◌∷◌, length, map, slice_index, vec_capacity}
use Rattle.pyramid.specs.Places.{list_of}
use Rattle.pyramid.proofs.places.first_places.Given as goal

abbrev pub invariant-loop-list : goal.invariant-loop-list
invariant-loop-list l = record {
  count : length l.left.items ≡ l.list-index;
  room : vec_capacity l.left ≡ length l.places;
  each : (k : ℕ) → k < l.list-index → list_of l.left.items k ≡ map (slice_index (list_of l.places k)) (0 ∷ []);
}
