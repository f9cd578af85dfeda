use Rattle.std.proofs.Common.{◌^◌, ◌≡◌, ◌<◌, ◌≤◌, ℕ, true, slice_index_or}
use Rattle.sweep_index.specs.Meetings.{is_met}
use Rattle.sweep_index.specs.declared.things.Banded.{Banded}
use Rattle.sweep_index.proofs.sweep.first_met.Given as goal

abbrev pub invariant-loop-k : goal.invariant-loop-k
invariant-loop-k l = (k : ℕ) → l.from ≤ k → k < l.k → ¬ ((d : Banded) → is_met (2 ^ l.shift) (l.head, slice_index_or l.others k d) ≡ true)
