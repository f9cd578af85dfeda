use Rattle.std.proofs.Common.{◌+◌, ◌<◌, ◌≤◌, length}
use Rattle.topo_build.specs.Cutting.{IsStage}
use Rattle.topo_build.specs.Passages.{IsMarked}
use Rattle.topo_build.specs.Table.{IsTable, arcs_in}
use Rattle.topo_build.proofs.cut.cut.Given as goal

abbrev pub invariant-loop-end : goal.invariant-loop-end
invariant-loop-end l = record {
  table : IsTable l.arcs;
  order : l.start < l.end;
  few : length (arcs_in l.arcs) + 1 ≤ length (arcs_in l.fn.arcs) + l.end;
  stage : IsStage (IsMarked l.junctions) l.walk l.start l.end (arcs_in l.fn.arcs) l.refs.items (arcs_in l.arcs);
}
