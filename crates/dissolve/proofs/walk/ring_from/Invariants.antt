use Rattle.std.proofs.Common.{length}
use Rattle.dissolve.specs.Unused.{AreUnused, unused_in}
use Rattle.dissolve.proofs.Staging.{IsUnderWay}
use Rattle.dissolve.proofs.walk.ring_from.Given as goal

abbrev pub invariant-loop-start : goal.invariant-loop-start
invariant-loop-start l = record {
  unused : AreUnused l.map l.unused;
  way : IsUnderWay l.map (unused_in l.fn.unused) l.arc l.start l.at (unused_in l.unused) l.ring.items;
}

abbrev pub decreases-loop-start : goal.decreases-loop-start
decreases-loop-start l = length (unused_in l.unused)
