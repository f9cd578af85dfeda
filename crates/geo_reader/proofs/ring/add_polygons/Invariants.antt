use Rattle.std.proofs.Common.{◌≡◌}
use Rattle.json_scan.specs.Shown.{tree}
use Rattle.json_scan.specs.Left.{trees}
use Rattle.topo_reader.specs.Sequence.{each}
use Rattle.geo_reader.specs.Rings.{polygon_added, polygons_added}
use Rattle.geo_reader.proofs.ring.add_polygons.Given as goal

abbrev pub invariant-loop-item : goal.invariant-loop-item
invariant-loop-item l = record {
  same : polygons_added (tree l.fn.value) l.fn.rings ≡ each polygon_added (trees l.item-iterator) l.rings;
  can : (goal.iterator-loop-item).can_next l.item-iterator;
  ends : (goal.iterator-loop-item).is_finite l.item-iterator;
}
