use Rattle.std.proofs.Common.{◌≡◌}
use Rattle.json_scan.specs.Shown.{tree}
use Rattle.json_scan.specs.Left.{entries}
use Rattle.topo_reader.specs.Arcs.{places_of}
use Rattle.topo_reader.specs.Geometries.{objects_of, objects_from}
use Rattle.topo_reader.specs.SeenSoFar.{seen_of}
use Rattle.topo_reader.proofs.objects.objects.Given as goal

abbrev pub invariant-loop-member : goal.invariant-loop-member
invariant-loop-member l = record {
  same : objects_of (places_of l.arcs) (tree l.fn.value) (seen_of l.fn.seen)
      ≡ objects_from (places_of l.arcs) (entries l.member-iterator) (seen_of l.seen);
  can : (goal.iterator-loop-member).can_next l.member-iterator;
  ends : (goal.iterator-loop-member).is_finite l.member-iterator;
}
