use Rattle.std.specs.Prelude.{codes}
use Rattle.std.proofs.Common.{◌≡◌}
use Rattle.json_scan.specs.Shown.{tree}
use Rattle.json_scan.specs.Left.{trees}
use Rattle.geo_text.specs.Drafts.{written, with_point, each_added, list_added}
use Rattle.geo_text.specs.Written.{draft_of}
use Rattle.geo_text.proofs.lists.points.Given as goal

abbrev pub invariant-loop-item : goal.invariant-loop-item
invariant-loop-item l = record {
  same : list_added (λ t. with_point) (tree l.fn.value) (draft_of l.fn.writer)
      ≡ written (codes "]") (each_added (λ t. with_point) l.first (trees l._item-iterator) (draft_of l.writer));
  can : (goal.iterator-loop-item).can_next l._item-iterator;
  ends : (goal.iterator-loop-item).is_finite l._item-iterator;
}
