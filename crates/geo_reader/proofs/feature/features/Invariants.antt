use Rattle.std.proofs.Common.{◌≡◌}
use Rattle.json_scan.specs.Left.{trees}
use Rattle.json_scan.specs.Members.{holder, members}
use Rattle.topo_reader.specs.Sequence.{each}
use Rattle.geo_reader.specs.GeoJson.{feature_of, features_in}
use Rattle.geo_reader.specs.SoFar.{geo_so_far}
use Rattle.geo_reader.proofs.feature.features.Given as goal

abbrev pub invariant-loop-value : goal.invariant-loop-value
invariant-loop-value l = record {
  same : features_in (holder l.object) (members l.object) (geo_so_far l.fn.so_far)
      ≡ each feature_of (trees l.value-iterator) (geo_so_far l.so_far);
  can : (goal.iterator-loop-value).can_next l.value-iterator;
  ends : (goal.iterator-loop-value).is_finite l.value-iterator;
}
