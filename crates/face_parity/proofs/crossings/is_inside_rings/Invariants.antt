use Rattle.std.proofs.Common.{◌≡◌, drop}
use Rattle.grid_exact.specs.Walks.{differ}
use Rattle.arc_map.specs.Arcs.{is_inside_of}
use Rattle.face_parity.proofs.crossings.is_inside_rings.Given as goal

abbrev pub invariant-loop-arc : goal.invariant-loop-arc
invariant-loop-arc l = differ l.is_in (is_inside_of l.p l.topology.arcs (drop l.arc-index l.arcs)) ≡ is_inside_of l.p l.topology.arcs l.arcs
