-- What is left rises where the whole does.
use Rattle.std.proofs.Common.{◌≡◌, ◌+◌, length}
use Rattle.std.specs.Option.{option_map_or}
use Rattle.top_call.specs.Words.{are_rising, is_list, words_left}
use Rattle.top_call.proofs.lists.is_list.Given as goal

abbrev pub invariant-words : goal.invariant-words
invariant-words l = are_rising l.most l.least l.free (words_left l.rest) ≡ is_list l.most l.room l.fn.list

abbrev pub decreases-words : goal.decreases-words
decreases-words l = option_map_or (λ list. length list.now + 1) l.rest 0
