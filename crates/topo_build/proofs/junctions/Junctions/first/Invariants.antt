use Rattle.std.proofs.Common.{All, take}
use Rattle.topo_build.specs.Passages.{IsMarked}
use Rattle.topo_build.proofs.junctions.Junctions.first.Given as goal

abbrev pub invariant-loop-at : goal.invariant-loop-at
invariant-loop-at l = All (λ p. ¬ (IsMarked l.self p)) (take l.at l.ring)
