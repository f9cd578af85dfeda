use Rattle.std.proofs.Common.{◌+◌, ◌≤◌, ◌^◌, [], drop, length, map, sum_by, take}
use Rattle.topo_build.specs.Built.{AreRingsBuilt}
use Rattle.topo_build.specs.Found.{IsFound, IsRingFound}
use Rattle.topo_build.specs.Passages.{IsMarked}
use Rattle.topo_build.specs.Table.{IsTable, arcs_in}
use Rattle.topo_build.proofs.topology.arcs_of.Given as goal

abbrev pub invariant-loop-ring : goal.invariant-loop-ring
invariant-loop-ring l = record {
  table : IsTable l.arcs;
  few : length (arcs_in l.arcs) + sum_by (λ ring. length ring.items) (drop l.ring-index l.rings) ≤ 2 ^ 20;
  built : AreRingsBuilt IsFound IsRingFound (IsMarked l.junctions) (map (λ ring. ring.items) (take l.ring-index l.rings)) []
      (map (λ refs. refs.items) l.refs.items) (arcs_in l.arcs);
}
