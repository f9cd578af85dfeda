-- The coordinates of the strays so far.
use Rattle.std.proofs.Common.{◌≡◌, ◌≤◌, length, map, take, vec_len, vec_capacity}
use Rattle.lane_kernels.specs.Places.{AreCoordinates}
use Rattle.side_wedge.proofs.strays.write_places.Given as goal

abbrev pub invariant-loop-stray : goal.invariant-loop-stray
invariant-loop-stray l = record {
  across : l.xs.items ≡ map (λ x. x.at.x) (take l.stray-index l.strays);
  up : l.ys.items ≡ map (λ x. x.at.y) (take l.stray-index l.strays);
  coordinates : AreCoordinates l.xs.items l.ys.items;
  x_count : vec_len l.xs ≡ l.stray-index;
  y_count : vec_len l.ys ≡ l.stray-index;
  x_room : length l.strays ≤ vec_capacity l.xs;
  y_room : length l.strays ≤ vec_capacity l.ys;
  x_capacity : vec_capacity l.xs ≡ vec_capacity l.fn.xs;
  y_capacity : vec_capacity l.ys ≡ vec_capacity l.fn.ys;
}
