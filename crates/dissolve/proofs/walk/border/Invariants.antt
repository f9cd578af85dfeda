use Rattle.dissolve.specs.Odd.{odd_arcs}
use Rattle.dissolve.specs.Unused.{AreUnused, unused_in}
use Rattle.dissolve.specs.Walk.{IsEven, IsStage}
use Rattle.dissolve.proofs.walk.border.Given as goal

abbrev pub invariant-loop-arc : goal.invariant-loop-arc
invariant-loop-arc l = record {
  unused : AreUnused l.map l.unused;
  even : IsEven l.map (unused_in l.unused);
  stage : IsStage l.map (odd_arcs l.map l.chosen) l.rings.items (unused_in l.unused) l.arc;
}
