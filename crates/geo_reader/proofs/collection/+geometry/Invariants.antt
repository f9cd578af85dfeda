use Rattle.std.proofs.Common.{◌≡◌, ◌+◌, ◌*◌, ◌≤◌}
use Rattle.json_scan.specs.Shown.{tree}
use Rattle.json_scan.specs.Left.{trees}
use Rattle.json_scan.specs.Members.{holder, members}
use Rattle.topo_reader.proofs.Sizes.{size, sizes, entry_sizes}
use Rattle.geo_reader.specs.Geometries.{collection_geometry, geometries_of}
use Rattle.geo_reader.specs.SoFar.{geo_so_far}
use Rattle.geo_reader.proofs.collection.+geometry.Given as goal

abbrev pub decreases-geometry : goal.decreases-geometry
decreases-geometry l = 3 * size (tree l.value)

abbrev pub decreases-geometry_object : goal.decreases-geometry_object
decreases-geometry_object l = 3 * entry_sizes (members l.object) + 2

abbrev pub decreases-geometry_of_kind : goal.decreases-geometry_of_kind
decreases-geometry_of_kind l = 3 * entry_sizes (members l.object) + 1

abbrev pub decreases-collection : goal.decreases-collection
decreases-collection l = 3 * entry_sizes (members l.object)

abbrev pub invariant-collection-loop-value : goal.invariant-collection-loop-value
invariant-collection-loop-value l = record {
  same : collection_geometry (holder l.object) (members l.object) (geo_so_far l.fn.so_far)
      ≡ geometries_of (trees l.value-iterator) (geo_so_far l.so_far);
  small : sizes (trees l.value-iterator) + 1 ≤ entry_sizes (members l.object);
  can : (goal.iterator-collection-loop-value).can_next l.value-iterator;
  ends : (goal.iterator-collection-loop-value).is_finite l.value-iterator;
}
