use Rattle.std.proofs.Common.{◌≡◌, ◌<◌, ◌≤◌, ℕ, false, get_or, length}
use Rattle.std.specs.Prelude.{◌&&◌}
use Rattle.dissolve.specs.Odd.{has_edge}
use Rattle.dissolve.proofs.odd.clear_edgeless.Given as goal

abbrev pub invariant-loop-arc : goal.invariant-loop-arc
invariant-loop-arc l = record {
  count : length l.marks.items ≡ length l.fn.marks.items;
  done : (k : ℕ) → k < l.arc → get_or l.marks.items k false ≡ (has_edge l.map k && get_or l.fn.marks.items k false);
  still : (k : ℕ) → l.arc ≤ k → get_or l.marks.items k false ≡ get_or l.fn.marks.items k false;
}
