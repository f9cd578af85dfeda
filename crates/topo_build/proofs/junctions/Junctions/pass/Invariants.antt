use Rattle.std.proofs.Common.{◌<◌, ◌++◌, ◌-◌, All, List, take}
use Rattle.topo_build.specs.Junctions.{Turn, turns_along}
use Rattle.topo_build.specs.Passages.{AreTold}
use Rattle.topo_build.proofs.junctions.Junctions.pass.Given as goal

abbrev pub invariant-loop-k : goal.invariant-loop-k
invariant-loop-k l = (turns : List Turn) → All (λ t. t.ring < l.number) turns → AreTold turns l.fn.self
    → AreTold (turns ++ turns_along l.number (take l.k l.walk.items)) l.self
