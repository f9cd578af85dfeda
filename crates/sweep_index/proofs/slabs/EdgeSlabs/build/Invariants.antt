use Rattle.sweep_index.specs.Slabs.{AreEdgesBefore}
use Rattle.sweep_index.proofs.slabs.EdgeSlabs.build.Given as goal

abbrev pub invariant-loop-arc : goal.invariant-loop-arc
invariant-loop-arc l = AreEdgesBefore l.map l.width l.arc 0 l.edges.items
