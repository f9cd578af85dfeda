-- What stands beside the edges so far keeps its hand.
use Rattle.std.proofs.Common.{◌-◌, ◌≤◌}
use Rattle.side_wedge.specs.Rows.{KeepsEdges}
use Rattle.side_wedge.proofs.beside.Beside.keeps_all.Given as goal

abbrev pub invariant-loop-self : goal.invariant-loop-self
invariant-loop-self l = record {
  low : l.i ≤ l.edge;
  high : l.edge ≤ l.j;
  so_far : KeepsEdges l.self l.i l.edge l.a l.v;
}

abbrev pub decreases-loop-self : goal.decreases-loop-self
decreases-loop-self l = l.j - l.edge
