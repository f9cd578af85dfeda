use Rattle.std.proofs.Common.{take}
use Rattle.indexmap.specs.IndexMap.{get}
use Rattle.topo_build.specs.Table.{ArePut, same_edge}
use Rattle.topo_build.proofs.arcs.put.Given as goal

abbrev pub invariant-loop-k : goal.invariant-loop-k
invariant-loop-k l = ArePut (take l.k l.walk) l.number (get same_edge l.fn.edges) (get same_edge l.edges)
