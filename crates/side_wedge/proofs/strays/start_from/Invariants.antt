-- The strays so far are of earlier rows.
use Rattle.std.proofs.Common.{◌<◌, ◌≤◌, ◌-◌, ℕ, length, slice_index_or}
use Rattle.side_wedge.specs.declared.strays.Stray.{Stray}
use Rattle.side_wedge.proofs.strays.start_from.Given as goal

abbrev pub invariant-loop-at : goal.invariant-loop-at
invariant-loop-at l = record {
  within : l.at ≤ length l.strays;
  below : (k : ℕ) (d : Stray) → k < l.at → (slice_index_or l.strays k d).row < l.row;
}

abbrev pub decreases-loop-at : goal.decreases-loop-at
decreases-loop-at l = length l.strays - l.at
