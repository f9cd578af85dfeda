use Rattle.std.proofs.Common.{◌≡◌, ℕ, drop, length}
use Rattle.grid_exact.specs.Walks.{differ}
use Rattle.face_parity.specs.Celled.{run_at}
use Rattle.face_parity.specs.Faces.{turns}
use Rattle.face_parity.specs.Naming.{refs_over}
use Rattle.face_parity.specs.Parities.{pass_oddly}
use Rattle.face_parity.specs.Tally.{IsTally, is_odd_at}
use Rattle.face_parity.proofs.faces.turn_wide.Given as goal

abbrev pub invariant-loop-number : goal.invariant-loop-number
invariant-loop-number l = record {
  tally : IsTally l.tally;
  polygons : length l.tally.odd.items ≡ length l.topology.polygons;
  odd : (k : ℕ)
      → differ (is_odd_at l.tally k) (pass_oddly (λ n. turns l.topology l.p (refs_over l.namings.namings.items l.at.y k)
      (run_at l.cells.runs.items n)) (drop l.number-index l.wide))
      ≡ differ (is_odd_at l.fn.tally k) (pass_oddly (λ n. turns l.topology l.p (refs_over l.namings.namings.items l.at.y k)
      (run_at l.cells.runs.items n)) l.wide);
}
