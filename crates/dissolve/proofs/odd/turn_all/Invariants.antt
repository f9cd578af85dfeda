use Rattle.std.proofs.Common.{◌≡◌, ◌==◌, ℕ, false, drop, get_or, length}
use Rattle.grid_exact.specs.Walks.{differ}
use Rattle.face_parity.specs.Parities.{pass_oddly}
use Rattle.dissolve.proofs.odd.turn_all.Given as goal

abbrev pub invariant-loop-arc : goal.invariant-loop-arc
invariant-loop-arc l = record {
  count : length l.marks.items ≡ length l.fn.marks.items;
  odd : (k : ℕ) → differ (get_or l.marks.items k false) (pass_oddly (λ arc. arc == k) (drop l.arc-index l.arcs))
      ≡ differ (get_or l.fn.marks.items k false) (pass_oddly (λ arc. arc == k) l.arcs);
}
