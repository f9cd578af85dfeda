use Rattle.std.proofs.Common.{◌≡◌, ◌<◌, ℕ, length, vec_capacity}
use Rattle.std.specs.List.{range_with_len}
use Rattle.arc_map.specs.Arranged.{arc_at}
use Rattle.pyramid.specs.Places.{list_of}
use Rattle.pyramid.proofs.places.all_places.Given as goal

abbrev pub invariant-loop-arc : goal.invariant-loop-arc
invariant-loop-arc l = record {
  count : length l.places.items ≡ l.arc;
  room : vec_capacity l.places ≡ length l.map.arcs;
  each : (k : ℕ) → k < l.arc → list_of l.places.items k ≡ range_with_len 0 (length (arc_at l.map k));
}
