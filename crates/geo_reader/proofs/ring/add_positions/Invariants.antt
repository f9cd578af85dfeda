use Rattle.std.proofs.Common.{◌≡◌}
use Rattle.json_scan.specs.Left.{trees}
use Rattle.geo_reader.specs.Rings.{positions_added}
use Rattle.geo_reader.proofs.ring.add_positions.Given as goal

abbrev pub invariant-loop-value : goal.invariant-loop-value
invariant-loop-value l = record {
  same : positions_added l.before (trees l.fn.items) l.fn.ring.items
      ≡ positions_added l.before (trees l.value-iterator) l.ring.items;
  can : (goal.iterator-loop-value).can_next l.value-iterator;
  ends : (goal.iterator-loop-value).is_finite l.value-iterator;
}
