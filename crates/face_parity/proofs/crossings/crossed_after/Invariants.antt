use Rattle.std.proofs.Common.{◌≡◌, ◌≤◌, ◌+◌, drop}
use Rattle.grid_exact.specs.Walks.{count_edges}
use Rattle.grid_exact.specs.Crossing.{is_crossed}
use Rattle.face_parity.proofs.crossings.crossed_after.Given as goal

abbrev pub invariant-loop-q : goal.invariant-loop-q
invariant-loop-q l = record {
  count : l.count + count_edges (is_crossed l.p) l.before (drop l.q-index l.rest) ≡ count_edges (is_crossed l.p) l.fn.first l.rest;
  few : l.count ≤ l.q-index;
}
