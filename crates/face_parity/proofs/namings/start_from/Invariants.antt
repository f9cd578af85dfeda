use Rattle.std.proofs.Common.{◌<◌, ◌≤◌, ◌-◌, ℕ, length, slice_index_or}
use Rattle.face_parity.specs.declared.namings.Naming.{Naming}
use Rattle.face_parity.proofs.namings.start_from.Given as goal

abbrev pub invariant-loop-at : goal.invariant-loop-at
invariant-loop-at l = record {
  within : l.at ≤ length l.namings;
  below : (k : ℕ) (d : Naming) → k < l.at → (slice_index_or l.namings k d).arc < l.arc;
}

abbrev pub decreases-loop-at : goal.decreases-loop-at
decreases-loop-at l = length l.namings - l.at
