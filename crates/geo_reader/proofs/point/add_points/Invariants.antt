use Rattle.std.proofs.Common.{◌≡◌}
use Rattle.json_scan.specs.Shown.{tree}
use Rattle.json_scan.specs.Left.{trees}
use Rattle.topo_reader.specs.Sequence.{each}
use Rattle.geo_reader.specs.Geometries.{point_added, points_added}
use Rattle.geo_reader.proofs.point.add_points.Given as goal

abbrev pub invariant-loop-item : goal.invariant-loop-item
invariant-loop-item l = record {
  same : points_added (tree l.fn.value) l.fn.points.items ≡ each point_added (trees l.item-iterator) l.points.items;
  can : (goal.iterator-loop-item).can_next l.item-iterator;
  ends : (goal.iterator-loop-item).is_finite l.item-iterator;
}
