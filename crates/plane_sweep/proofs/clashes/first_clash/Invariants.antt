use Rattle.std.proofs.Common.{length}
use Rattle.std.specs.Prelude.{All}
use Rattle.sweep_index.specs.EdgeIndex.{pairs_of}
use Rattle.sweep_index.specs.EdgeWalks.{pairs_left}
use Rattle.sweep_index.specs.Pairs.{IsPairOf}
use Rattle.arrangement_check.proofs.LeastSoFar.{DoClash}
use Rattle.arrangement_check.proofs.Walking.{Walked}
use Rattle.plane_sweep.proofs.clashes.first_clash.Given as goal

abbrev pub invariant-loop-e : goal.invariant-loop-e
invariant-loop-e l = record {
  left : All (IsPairOf l.map) (pairs_left l.pairs);
  walked : Walked (DoClash l.map) (λ pair. ⊥) (pairs_of l.index) (pairs_left l.pairs);
}

abbrev pub decreases-loop-e : goal.decreases-loop-e
decreases-loop-e l = length (pairs_left l.pairs)
