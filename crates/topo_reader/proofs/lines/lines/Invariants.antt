use Rattle.std.proofs.Common.{◌≡◌}
use Rattle.json_scan.specs.Left.{trees}
use Rattle.topo_reader.specs.Arcs.{places_of}
use Rattle.topo_reader.specs.Geometries.{lines_of}
use Rattle.topo_reader.proofs.lines.lines.Given as goal

abbrev pub invariant-loop-value : goal.invariant-loop-value
invariant-loop-value l = record {
  same : lines_of (places_of l.arcs) (trees l.fn.items) l.fn.counted ≡ lines_of (places_of l.arcs) (trees l.value-iterator) l.count;
  can : (goal.iterator-loop-value).can_next l.value-iterator;
  ends : (goal.iterator-loop-value).is_finite l.value-iterator;
}
