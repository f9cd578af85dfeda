-- The starts of the rows so far.
use Rattle.std.proofs.Common.{◌≡◌, ◌+◌, ◌<◌, ◌≤◌, ℕ, length, slice_index, slice_index_or, vec_capacity}
use Rattle.side_wedge.specs.Strays.{IsStartOf}
use Rattle.side_wedge.specs.declared.strays.Stray.{Stray}
use Rattle.side_wedge.proofs.strays.write_starts.Given as goal

abbrev pub invariant-loop-row : goal.invariant-loop-row
invariant-loop-row l = record {
  within : l.start ≤ length l.strays;
  below : (k : ℕ) (d : Stray) → k < l.start → (slice_index_or l.strays k d).row < l.row;
  count : length l.starts.items ≡ l.row;
  room : l.rows + 1 ≤ vec_capacity l.starts;
  capacity : vec_capacity l.starts ≡ vec_capacity l.fn.starts;
  right : (row : ℕ) → row < l.row → IsStartOf l.strays row (slice_index l.starts.items row);
}
