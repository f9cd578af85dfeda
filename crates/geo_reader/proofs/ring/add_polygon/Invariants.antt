use Rattle.std.proofs.Common.{◌≡◌}
use Rattle.json_scan.specs.Shown.{tree}
use Rattle.json_scan.specs.Left.{trees}
use Rattle.topo_reader.specs.Sequence.{each}
use Rattle.geo_reader.specs.Rings.{ring_added, polygon_added}
use Rattle.geo_reader.proofs.ring.add_polygon.Given as goal

abbrev pub invariant-loop-item : goal.invariant-loop-item
invariant-loop-item l = record {
  same : polygon_added (tree l.fn.value) l.fn.rings ≡ each ring_added (trees l.item-iterator) l.rings;
  can : (goal.iterator-loop-item).can_next l.item-iterator;
  ends : (goal.iterator-loop-item).is_finite l.item-iterator;
}
