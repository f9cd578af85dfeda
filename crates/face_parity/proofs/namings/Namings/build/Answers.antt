use Rattle.std.proofs.Common.{◌≤◌, ◌+◌, ◌∙◌, ap, rules}
use Rattle.std.specs.Prelude.{slice_index}
use Rattle.std.proofs.lemmas.List.Sorted.{All-permutation, IsNonDecreasingBy-from_sort_by_key}
use Rattle.face_parity.proofs.Telling.{namings-moved}
use Rattle.face_parity.proofs.namings.Namings.build.Goals as goal

pub starts_of-requires : goal.starts_of-requires
starts_of-requires c = rw c.deref.ensures.value (IsNonDecreasingBy-from_sort_by_key (λ n. n.arc) _ c.sort_unstable_by_key.ensures.sorted
    (λ a r q k. search rules))

pub returns-clause-namings : goal.returns-clause-namings
returns-clause-namings c m count are = record {
  starts = c.in_ok-starts.ensures.whole ∙ ap (λ n. n + 1) count;
  namings = namings-moved m c.args.namings.items c.sort_unstable_by_key.new.self.items c.sort_unstable_by_key.ensures.permutation are;
}

pub returns-clause-under : goal.returns-clause-under
returns-clause-under c floors under = All-permutation (λ n. slice_index floors n.arc ≤ n.floor) c.args.namings.items
    c.sort_unstable_by_key.new.self.items c.sort_unstable_by_key.ensures.permutation under
