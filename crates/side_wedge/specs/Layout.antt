-- How the places beside a chain lie in memory.
use Rattle.std.specs.Prelude.{◌+◌, ◌<◌, ◌≤◌, ℕ, length, slice_index, vec_capacity}
use Rattle.lane_kernels.specs.Places.{AreCoordinates}
use Rattle.side_wedge.specs.Flanks.{Flanks}
use Rattle.side_wedge.specs.declared.beside.Beside.TheInside.{Inside}

abbrev pub flanks_of : Inside → Flanks
flanks_of a = record { room = a.room; frame = a.frame; xs = a.xs.items; ys = a.ys.items; starts = a.starts.items }

-- the places are on the grid, the rows lie one behind the other, and the room was taken
pub record AreLaid (a : Inside) : Type 0 where
  pub coordinates : AreCoordinates a.xs.items a.ys.items
  pub ordered : (row : ℕ) → row + 1 < length a.starts.items → slice_index a.starts.items row ≤ slice_index a.starts.items (row + 1)
  pub within : (row : ℕ) → row < length a.starts.items → slice_index a.starts.items row ≤ length a.xs.items
  pub stray_room : a.room ≤ vec_capacity a.strays
  pub x_room : a.room ≤ vec_capacity a.xs
  pub y_room : a.room ≤ vec_capacity a.ys
  pub start_room : 2047 ≤ vec_capacity a.starts
