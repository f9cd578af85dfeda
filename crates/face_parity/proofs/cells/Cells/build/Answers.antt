use Rattle.std.proofs.Common.{length, rules, subst}
use Rattle.std.proofs.lemmas.List.Sorted.{IsNonDecreasingBy-from_sort_by_key}
use Rattle.face_parity.specs.Celled.{AreCelled, AreWideTo}
use Rattle.face_parity.proofs.Reaching.{celled-reordered}
use Rattle.face_parity.proofs.cells.Cells.build.Goals as goal

pub invariant_of-result : goal.invariant_of-result
invariant_of-result c = record {
  some_width = c.width-width.ensures;
  some_height = c.high_enough-height.ensures;
  sorted = IsNonDecreasingBy-from_sort_by_key (λ s. s.cell) _ c.sort_unstable_by_key.ensures.sorted (λ a r q k. search rules);
}

pub returns-clause-cells : goal.returns-clause-cells
returns-clause-cells c =
    let runs = c.in_ok-runs.runs.items in
    let limits = c.of-limits.result in
    let width = c.width-width.result in
    let height = c.high_enough-height.result in
    let celled = c.in_ok-celled.celled.items in
    let are = subst (λ rs. AreCelled rs limits width height celled) c.deref-5.ensures.value c.in_ok-celled.ensures in
    record {
      floors = c.requires;
      runs = c.in_ok-runs.ensures;
      wide = subst (λ rs. AreWideTo rs limits (length rs) c.in_ok-wide.wide.items) c.deref-4.ensures.value c.in_ok-wide.ensures;
      celled = celled-reordered runs limits width height celled c.sort_unstable_by_key.new.self.items
          c.sort_unstable_by_key.ensures.permutation are;
    }
