use Rattle.std.proofs.Common.{◌-◌}
use Rattle.sweep_index.specs.Slabs.{AreEdgesBefore}
use Rattle.sweep_index.proofs.slabs.push_arc.Given as goal

abbrev pub invariant-loop-at : goal.invariant-loop-at
invariant-loop-at l = AreEdgesBefore l.map l.width l.arc (l.at - 1) l.edges.items
