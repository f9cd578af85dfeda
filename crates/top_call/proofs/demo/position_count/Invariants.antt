-- The positions of the arcs so far and those of the others make up the whole.
use Rattle.std.proofs.Common.{◌≡◌, ◌+◌, length, drop}
use Rattle.std.specs.Prelude.{sum_by}
use Rattle.top_call.proofs.demo.position_count.Given as goal

abbrev pub invariant-loop-arc : goal.invariant-loop-arc
invariant-loop-arc l = l.count + sum_by length (drop l.arc l.map.arcs) ≡ sum_by length l.map.arcs
