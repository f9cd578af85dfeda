-- Each list has the chains so far that end at its place.
use Rattle.arc_map.specs.Ends.{listed}
use Rattle.grid_exact.specs.Geometry.{Place}
use Rattle.arc_map.proofs.Ending.{AreEndingBelow}
use Rattle.arc_map.proofs.ends.EndTable.build.Given as goal

abbrev pub invariant-loop-k : goal.invariant-loop-k
invariant-loop-k l = (p : Place) → AreEndingBelow l.work.chains l.k p (listed l.table.places l.table.lists p)
