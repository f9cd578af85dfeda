use Rattle.std.proofs.Common.{◌≡◌, length}
use Rattle.std.specs.Prelude.{All}
use Rattle.arc_map.specs.Arranged.{PointIsOn}
use Rattle.sweep_index.specs.EdgeIndex.{towns_of}
use Rattle.sweep_index.specs.EdgeWalks.{towns_left}
use Rattle.sweep_index.specs.Pairs.{IsTownOf}
use Rattle.arrangement_check.specs.Marks.{IsMarked, MarksClashes, MarksHeld}
use Rattle.arrangement_check.proofs.Walking.{Walked}
use Rattle.arrangement_check.proofs.partly.mark_towns.Given as goal

abbrev pub invariant-loop-town : goal.invariant-loop-town
invariant-loop-town l = record {
  left : All (IsTownOf l.map) (towns_left l.towns);
  long : length l.marks ≡ length l.map.arcs;
  only : MarksHeld l.map l.marks;
  clashes : MarksClashes l.map l.marks;
  walked : Walked (λ town. PointIsOn l.map town.0 town.1) (λ town. IsMarked l.marks town.1.arc) (towns_of l.index) (towns_left l.towns);
}

abbrev pub decreases-loop-town : goal.decreases-loop-town
decreases-loop-town l = length (towns_left l.towns)
