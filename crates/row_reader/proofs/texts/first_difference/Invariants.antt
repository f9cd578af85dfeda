use Rattle.std.proofs.Common.{◌≡◌, take}
use Rattle.row_reader.proofs.texts.first_difference.Given as goal

abbrev pub invariant-loop-at : goal.invariant-loop-at
invariant-loop-at l = take l.at l.expected ≡ take l.at l.got
