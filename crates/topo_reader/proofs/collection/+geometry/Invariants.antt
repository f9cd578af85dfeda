use Rattle.std.proofs.Common.{◌≡◌, ◌+◌, ◌*◌, ◌≤◌}
use Rattle.json_scan.specs.Shown.{tree}
use Rattle.json_scan.specs.Left.{trees}
use Rattle.json_scan.specs.Members.{holder, members}
use Rattle.topo_reader.specs.Arcs.{places_of}
use Rattle.topo_reader.specs.Geometries.{collection_geometry, geometries_of}
use Rattle.topo_reader.specs.SeenSoFar.{seen_of}
use Rattle.topo_reader.proofs.Sizes.{size, sizes, entry_sizes}
use Rattle.topo_reader.proofs.collection.+geometry.Given as goal

abbrev pub decreases-geometry : goal.decreases-geometry
decreases-geometry l = 2 * size (tree l.value)

abbrev pub decreases-geometry_of_kind : goal.decreases-geometry_of_kind
decreases-geometry_of_kind l = 2 * entry_sizes (members l.object) + 1

abbrev pub decreases-collection : goal.decreases-collection
decreases-collection l = 2 * entry_sizes (members l.object)

abbrev pub invariant-collection-loop-value : goal.invariant-collection-loop-value
invariant-collection-loop-value l = record {
  same : collection_geometry (places_of l.arcs) (holder l.object) (members l.object) (seen_of l.fn.seen)
      ≡ geometries_of (places_of l.arcs) (trees l.value-iterator) (seen_of l.seen);
  small : sizes (trees l.value-iterator) + 1 ≤ entry_sizes (members l.object);
  can : (goal.iterator-collection-loop-value).can_next l.value-iterator;
  ends : (goal.iterator-collection-loop-value).is_finite l.value-iterator;
}
