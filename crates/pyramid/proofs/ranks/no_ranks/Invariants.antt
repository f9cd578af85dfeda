use Rattle.std.proofs.Common.{◌≡◌, ◌<◌, ℕ, get_or, length, vec_capacity}
use Rattle.arc_map.specs.Arranged.{arc_at}
use Rattle.pyramid.specs.Places.{list_of}
use Rattle.pyramid.proofs.ranks.no_ranks.Given as goal

abbrev pub invariant-loop-arc : goal.invariant-loop-arc
invariant-loop-arc l = record {
  count : length l.ranks.items ≡ l.arc;
  room : vec_capacity l.ranks ≡ length l.map.arcs;
  long : (k : ℕ) → k < l.arc → length (list_of l.ranks.items k) ≡ length (arc_at l.map k);
  none : (k : ℕ) → k < l.arc → (at : ℕ) → get_or (list_of l.ranks.items k) at 0 ≡ 0;
}
