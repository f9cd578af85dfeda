use Rattle.std.specs.Prelude.{codes}
use Rattle.std.proofs.Common.{◌≡◌, ◌+◌, ◌*◌, ◌≤◌}
use Rattle.json_scan.specs.Shown.{tree}
use Rattle.json_scan.specs.Left.{trees}
use Rattle.json_scan.specs.Members.{members}
use Rattle.topo_reader.proofs.Sizes.{size, sizes, entry_sizes}
use Rattle.geo_text.specs.Drafts.{written}
use Rattle.geo_text.specs.BuiltText.{geometry_list, geometries}
use Rattle.geo_text.specs.Written.{draft_of}
use Rattle.geo_text.proofs.geometries.+geometry.Given as goal

abbrev pub decreases-geometry : goal.decreases-geometry
decreases-geometry l = 5 * size (tree l.value) + 4

abbrev pub decreases-contents : goal.decreases-contents
decreases-contents l = 5 * size (tree l.value) + 3

abbrev pub decreases-contents_of : goal.decreases-contents_of
decreases-contents_of l = 5 * entry_sizes (members l.object) + 7

abbrev pub decreases-collection : goal.decreases-collection
decreases-collection l = 5 * entry_sizes (members l.object) + 6

abbrev pub decreases-geometries : goal.decreases-geometries
decreases-geometries l = 5 * size (tree l.value)

abbrev pub invariant-geometries-loop-item : goal.invariant-geometries-loop-item
invariant-geometries-loop-item l = record {
  same : geometry_list (tree l.fn.value) (draft_of l.fn.writer)
      ≡ written (codes "]") (geometries l.first (trees l.item-iterator) (draft_of l.writer));
  small : 1 + sizes (trees l.item-iterator) ≤ size (tree l.fn.value);
  can : (goal.iterator-geometries-loop-item).can_next l.item-iterator;
  ends : (goal.iterator-geometries-loop-item).is_finite l.item-iterator;
}
