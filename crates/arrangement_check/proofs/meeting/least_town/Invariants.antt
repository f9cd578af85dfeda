use Rattle.std.proofs.Common.{length}
use Rattle.std.specs.Prelude.{All, IfSome}
use Rattle.arc_map.specs.Arranged.{PointIsOn}
use Rattle.sweep_index.specs.EdgeIndex.{towns_of}
use Rattle.sweep_index.specs.EdgeWalks.{towns_left}
use Rattle.sweep_index.specs.Pairs.{IsTownOf}
use Rattle.arrangement_check.specs.Least.{IsLessTown}
use Rattle.arrangement_check.proofs.Walking.{IsNotBelow, Walked}
use Rattle.arrangement_check.proofs.meeting.least_town.Given as goal

abbrev pub invariant-loop-town : goal.invariant-loop-town
invariant-loop-town l = record {
  left : All (IsTownOf l.map) (towns_left l.towns);
  found : IfSome l.least (λ town. IsTownOf l.map town × PointIsOn l.map town.0 town.1);
  walked : Walked (λ town. PointIsOn l.map town.0 town.1) (IsNotBelow IsLessTown l.least) (towns_of l.index) (towns_left l.towns);
}

abbrev pub decreases-loop-town : goal.decreases-loop-town
decreases-loop-town l = length (towns_left l.towns)
