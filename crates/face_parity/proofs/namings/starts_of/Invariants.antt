use Rattle.std.proofs.Common.{◌≡◌, ◌<◌, ◌≤◌, ℕ, length, slice_index, slice_index_or}
use Rattle.face_parity.specs.Naming.{IsStartOf}
use Rattle.face_parity.specs.declared.namings.Naming.{Naming}
use Rattle.face_parity.proofs.namings.starts_of.Given as goal

abbrev pub invariant-loop-arc : goal.invariant-loop-arc
invariant-loop-arc l = record {
  within : l.start ≤ length l.namings;
  below : (k : ℕ) (d : Naming) → k < l.start → (slice_index_or l.namings k d).arc < l.arc;
  count : length l.starts.items ≡ l.arc;
  right : (arc : ℕ) → arc < l.arc → IsStartOf l.namings arc (slice_index l.starts.items arc);
}
