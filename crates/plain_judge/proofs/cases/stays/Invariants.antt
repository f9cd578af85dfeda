use Rattle.std.specs.Prelude.{All}
use Rattle.std.specs.List.{AllWithin}
use Rattle.grid_exact.specs.Weights.{StaysOnGrid}
use Rattle.plain_judge.proofs.cases.stays.Given as goal

abbrev pub invariant-loop-k : goal.invariant-loop-k
invariant-loop-k l = AllWithin (All (StaysOnGrid l.weights)) l.map.arcs 0 l.k
