-- The numbers so far and those of what is left are those of the list.
use Rattle.std.proofs.Common.{◌≡◌, ◌+◌, ◌++◌, length}
use Rattle.std.specs.Option.{option_map_or}
use Rattle.top_call.specs.Words.{numbers_in, numbers_of, words_left}
use Rattle.top_call.proofs.lists.numbers_of.Given as goal

abbrev pub invariant-words : goal.invariant-words
invariant-words l = l.numbers.items ++ numbers_in l.most (words_left l.rest) ≡ numbers_of l.most l.fn.list

abbrev pub decreases-words : goal.decreases-words
decreases-words l = option_map_or (λ list. length list.now + 1) l.rest 0
