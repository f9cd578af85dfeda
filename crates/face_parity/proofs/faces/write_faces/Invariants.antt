use Rattle.std.proofs.Common.{◌≡◌, ◌≤◌, ◌+◌, ◌-◌, ◌*◌, ◌++◌, drop, length, vec_len}
use Rattle.std.specs.Prelude.{filter, vec_capacity}
use Rattle.face_parity.specs.Lines.{numbers_text, still}
use Rattle.face_parity.specs.Tally.{is_odd_at}
use Rattle.face_parity.proofs.faces.write_faces.Given as goal

abbrev pub invariant-loop-k : goal.invariant-loop-k
invariant-loop-k l = record {
  room : vec_len l.text + 6 + 8 * (length l.turned - l.k-index) ≤ vec_capacity l.text;
  capacity : vec_capacity l.fn.text ≤ vec_capacity l.text;
  value : l.text.items ++ still l.some (filter (is_odd_at l.tally) (drop l.k-index l.turned)) ≡ l.fn.text.items
      ++ numbers_text (filter (is_odd_at l.tally) l.turned);
}
