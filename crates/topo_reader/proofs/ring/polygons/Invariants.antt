use Rattle.std.proofs.Common.{◌≡◌}
use Rattle.json_scan.specs.Shown.{tree}
use Rattle.json_scan.specs.Left.{trees}
use Rattle.topo_reader.specs.Arcs.{places_of}
use Rattle.topo_reader.specs.Geometries.{polygons_of, polygons_from}
use Rattle.topo_reader.specs.SeenSoFar.{polygon_read}
use Rattle.topo_reader.proofs.ring.polygons.Given as goal

abbrev pub invariant-loop-item : goal.invariant-loop-item
invariant-loop-item l = record {
  same : polygons_of (places_of l.arcs) (tree l.fn.value) (polygon_read l.fn.numbers.items l.fn.counted)
      ≡ polygons_from (places_of l.arcs) (trees l.item-iterator) (polygon_read l.numbers.items l.count);
  can : (goal.iterator-loop-item).can_next l.item-iterator;
  ends : (goal.iterator-loop-item).is_finite l.item-iterator;
}
