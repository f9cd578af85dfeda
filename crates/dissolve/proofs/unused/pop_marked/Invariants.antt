use Rattle.std.proofs.Common.{length}
use Rattle.dissolve.proofs.Popping.{IsDropped}
use Rattle.dissolve.proofs.unused.pop_marked.Given as goal

abbrev pub invariant-loop-arc : goal.invariant-loop-arc
invariant-loop-arc l = IsDropped l.marks l.fn.arcs.items l.arcs.items

abbrev pub decreases-loop-arc : goal.decreases-loop-arc
decreases-loop-arc l = length l.arcs.items
