use Rattle.std.proofs.Common.{◌≤◌, length}
use Rattle.dissolve.proofs.Listing.{AreListed}
use Rattle.dissolve.proofs.unused.Unused.build.Given as goal

abbrev pub invariant-loop-arc : goal.invariant-loop-arc
invariant-loop-arc l = record {
  within : l.arc ≤ length l.map.arcs;
  listed : AreListed l.map l.fn.marks.items l.arc l.unused;
}
