use Rattle.std.proofs.Common.{◌≡◌, ◌<◌, ℕ, length, map, slice_index, take}
use Rattle.pyramid.specs.Levels.{kept_of}
use Rattle.pyramid.specs.Places.{list_of}
use Rattle.pyramid.proofs.places.places_left.Given as goal

abbrev pub invariant-loop-k : goal.invariant-loop-k
invariant-loop-k l = record {
  count : length l.left.items ≡ length l.places;
  each : (arc : ℕ) → arc < length l.places → list_of l.left.items arc
      ≡ map (slice_index (list_of l.places arc)) (kept_of (take l.k l.records.entries) arc);
}
