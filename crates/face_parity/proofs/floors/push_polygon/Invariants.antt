use Rattle.std.proofs.Common.{◌≡◌, ◌<◌, [], All, get_or, length}
use Rattle.face_parity.specs.Naming.{AreUnder}
use Rattle.face_parity.proofs.Telling.{IsTelling}
use Rattle.face_parity.proofs.floors.push_polygon.Given as goal

abbrev pub invariant-loop-rest : goal.invariant-loop-rest
invariant-loop-rest l = record {
  known : All (λ arc. arc < length l.topology.arcs) l.rest;
  count : length l.floors.items ≡ length l.topology.arcs;
  telling : IsTelling l.topology l.polygon l.namings.items l.rest (get_or l.topology.polygons l.polygon []);
  under : AreUnder l.floors.items l.namings.items;
}

abbrev pub decreases-loop-rest : goal.decreases-loop-rest
decreases-loop-rest l = length l.rest
