use Rattle.std.proofs.Common.{◌≡◌, ◌<◌, ◌≤◌, ℕ, length, get_or, slice_index}
use Rattle.face_parity.proofs.floors.lower.Given as goal

abbrev pub invariant-loop-arc : goal.invariant-loop-arc
invariant-loop-arc l = record {
  count : length l.arcs.items ≡ length l.fn.arcs.items;
  lower : (arc : ℕ) → slice_index l.arcs.items arc ≤ slice_index l.fn.arcs.items arc;
  under : (i : ℕ) → i < l.arc-index → slice_index l.arcs.items (get_or l.refs i 0) ≤ l.floor;
}
