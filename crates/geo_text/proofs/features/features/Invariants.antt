use Rattle.std.specs.Prelude.{codes}
use Rattle.std.proofs.Common.{◌≡◌}
use Rattle.json_scan.specs.Shown.{tree}
use Rattle.json_scan.specs.Left.{trees}
use Rattle.geo_text.specs.Drafts.{written, each_added, list_added}
use Rattle.geo_text.specs.BuiltText.{feature}
use Rattle.geo_text.specs.Written.{draft_of}
use Rattle.geo_text.proofs.features.features.Given as goal

abbrev pub invariant-loop-item : goal.invariant-loop-item
invariant-loop-item l = record {
  same : list_added (feature l.input) (tree l.fn.value) (draft_of l.fn.writer)
      ≡ written (codes "]") (each_added (feature l.input) l.first (trees l.item-iterator) (draft_of l.writer));
  can : (goal.iterator-loop-item).can_next l.item-iterator;
  ends : (goal.iterator-loop-item).is_finite l.item-iterator;
}
