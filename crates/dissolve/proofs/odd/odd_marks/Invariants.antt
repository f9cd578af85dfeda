use Rattle.std.proofs.Common.{drop}
use Rattle.dissolve.proofs.Turned.{AreTurned}
use Rattle.dissolve.proofs.odd.odd_marks.Given as goal

abbrev pub invariant-loop-k : goal.invariant-loop-k
invariant-loop-k l = AreTurned l.map l.polygons (drop l.k-index l.polygons) l.marks.items
