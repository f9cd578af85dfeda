-- The chains so far are in memory as the map has them, one behind the other.
use Rattle.std.proofs.Common.{◌≡◌, ◌≤◌, AllPairs, All, map, take, length, vec_len, vec_capacity}
use Rattle.std.specs.List.{AllZip}
use Rattle.arc_map.specs.Live.{chain_of, IsPartOf, IsRead}
use Rattle.arc_map.proofs.work.WorkMap.new.Given as goal

abbrev pub invariant-loop-place : goal.invariant-loop-place
invariant-loop-place l = record {
  read : AllZip (IsRead l.fn.map) (take l.place-index l.place-items) (map (chain_of l.vertices.items) l.live.items);
  apart : AllPairs (λ s t. s.end ≤ t.start) l.live.items;
  within : All (IsPartOf l.vertices.items) l.live.items;
  count : vec_len l.live ≡ l.place-index;
  room : vec_capacity l.live ≡ length l.place-items;
}
