use Rattle.std.proofs.Common.{map, take}
use Rattle.topo_build.specs.Junctions.{turns_of}
use Rattle.topo_build.specs.Passages.{AreTold}
use Rattle.topo_build.proofs.junctions.Junctions.build.Given as goal

abbrev pub invariant-loop-k : goal.invariant-loop-k
invariant-loop-k l = AreTold (turns_of 0 (map (λ ring. ring.items) (take l.k l.rings))) l.junctions
