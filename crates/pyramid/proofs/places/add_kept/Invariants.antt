use Rattle.std.proofs.Common.{◌≡◌, ◌+◌, ◌++◌, map, slice_index, take, drop}
use Rattle.pyramid.proofs.places.add_kept.Given as goal

abbrev pub invariant-loop-i : goal.invariant-loop-i
invariant-loop-i l = l.left.items ≡ l.fn.left.items ++ map (λ i. slice_index l.places (l.«from» + i)) (take l.i-index (drop 1 l.kept))
