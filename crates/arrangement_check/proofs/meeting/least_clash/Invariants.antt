use Rattle.std.proofs.Common.{length}
use Rattle.std.specs.Prelude.{All, IfSome}
use Rattle.arc_map.specs.Arranged.{EdgesClash}
use Rattle.sweep_index.specs.EdgeIndex.{pairs_of}
use Rattle.sweep_index.specs.EdgeWalks.{pairs_left}
use Rattle.sweep_index.specs.Pairs.{IsPairOf}
use Rattle.arrangement_check.specs.Least.{IsLessPair}
use Rattle.arrangement_check.proofs.Walking.{IsNotBelow, Walked}
use Rattle.arrangement_check.proofs.meeting.least_clash.Given as goal

abbrev pub invariant-loop-e : goal.invariant-loop-e
invariant-loop-e l = record {
  left : All (IsPairOf l.map) (pairs_left l.pairs);
  found : IfSome l.least (λ pair. IsPairOf l.map pair × EdgesClash l.map pair.0 pair.1);
  walked : Walked (λ pair. EdgesClash l.map pair.0 pair.1) (IsNotBelow IsLessPair l.least) (pairs_of l.index) (pairs_left l.pairs);
}

abbrev pub decreases-loop-e : goal.decreases-loop-e
decreases-loop-e l = length (pairs_left l.pairs)
