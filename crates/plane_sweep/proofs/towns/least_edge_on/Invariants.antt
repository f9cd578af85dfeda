use Rattle.std.proofs.Common.{length}
use Rattle.sweep_index.specs.EdgeWalk.{edges_left}
use Rattle.plane_sweep.proofs.Answering.{WalksEdges}
use Rattle.plane_sweep.proofs.towns.least_edge_on.Given as goal

abbrev pub invariant-loop-e : goal.invariant-loop-e
invariant-loop-e l = WalksEdges l.map l.town l.least (edges_left l.edges)

abbrev pub decreases-loop-e : goal.decreases-loop-e
decreases-loop-e l = length (edges_left l.edges)
