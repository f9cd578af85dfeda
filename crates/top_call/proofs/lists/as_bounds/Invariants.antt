-- The bounds so far and those of the numbers that are left are all.
use Rattle.std.proofs.Common.{◌≡◌, ◌++◌, pos, drop, map}
use Rattle.top_call.proofs.lists.as_bounds.Given as goal

abbrev pub invariant-loop-number : goal.invariant-loop-number
invariant-loop-number l = l.bounds.items ++ map pos (drop l.number-index l.numbers) ≡ map pos l.numbers
