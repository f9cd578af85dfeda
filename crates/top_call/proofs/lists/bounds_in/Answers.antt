-- Each number of the list is small.
use Rattle.std.proofs.Common.{ℕ, ◌≤◌, ◌^◌, List, All, sym, subst, ◌∙◌}
use Rattle.top_call.specs.Words.{words_between}
use Rattle.top_call.proofs.ListWords.{all_small}
use Rattle.top_call.proofs.lists.bounds_in.Goals as goal

pub as_bounds-requires : goal.as_bounds-requires
as_bounds-requires c =
    subst (λ (ns : List ℕ). All (λ n. n ≤ 2 ^ 30) ns) (sym (c.deref.ensures.value ∙ c.in_ok-numbers.ensures))
    (all_small (2 ^ 30) (words_between c.args.list.now))
