use Rattle.std.proofs.Common.{◌≡◌, length}
use Rattle.face_parity.specs.Naming.{AreNamingsTo, AreUnder}
use Rattle.face_parity.proofs.floors.floored.Given as goal

abbrev pub invariant-loop-polygon : goal.invariant-loop-polygon
invariant-loop-polygon l = record {
  namings : AreNamingsTo l.topology l.polygon l.namings.items;
  count : length l.floors.items ≡ length l.topology.arcs;
  under : AreUnder l.floors.items l.namings.items;
}
