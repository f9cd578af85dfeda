use Rattle.std.proofs.Common.{◌≡◌, length}
use Rattle.std.specs.Prelude.{All}
use Rattle.arc_map.specs.Arranged.{EdgesClash}
use Rattle.sweep_index.specs.EdgeIndex.{pairs_of}
use Rattle.sweep_index.specs.EdgeWalks.{pairs_left}
use Rattle.sweep_index.specs.Pairs.{IsPairOf}
use Rattle.arrangement_check.specs.Marks.{IsMarked, MarksHeld}
use Rattle.arrangement_check.proofs.Walking.{Walked}
use Rattle.arrangement_check.proofs.partly.mark_clashes.Given as goal

abbrev pub invariant-loop-e : goal.invariant-loop-e
invariant-loop-e l = record {
  left : All (IsPairOf l.map) (pairs_left l.pairs);
  long : length l.marks ≡ length l.map.arcs;
  only : MarksHeld l.map l.marks;
  walked : Walked (λ pair. EdgesClash l.map pair.0 pair.1) (λ pair. IsMarked l.marks pair.0.arc × IsMarked l.marks pair.1.arc)
      (pairs_of l.index) (pairs_left l.pairs);
}

abbrev pub decreases-loop-e : goal.decreases-loop-e
decreases-loop-e l = length (pairs_left l.pairs)
