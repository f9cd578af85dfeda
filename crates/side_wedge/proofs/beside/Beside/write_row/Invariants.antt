-- The wedge has taken the edges so far, and the row tells of the vertices up to the last of them.
use Rattle.std.proofs.Common.{◌≡◌, ◌≤◌, ℕ, false, length, get_or}
use Rattle.chain_side.specs.Along.{vertex_at}
use Rattle.side_wedge.specs.Wedge.{StartsAt}
use Rattle.side_wedge.proofs.Narrowing.{LetsSoFar, ToldSoFar}
use Rattle.side_wedge.proofs.beside.Beside.write_row.Given as goal

abbrev pub invariant-loop-edge : goal.invariant-loop-edge
invariant-loop-edge l = record {
  reached : l.i ≤ l.edge;
  origin : StartsAt l.wedge l.fn.direction.frame l.fn.direction.rising (vertex_at l.chain l.i);
  lets : LetsSoFar l.self l.fn.direction.frame l.fn.direction.rising (vertex_at l.chain l.i) l.i l.edge l.wedge;
  told : ToldSoFar l.self l.chain l.i l.edge l.row;
  before : (j : ℕ) → j ≤ l.i → get_or l.row j false ≡ get_or l.fn.row j false;
  count : length l.row ≡ length l.fn.row;
}
