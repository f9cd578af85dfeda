use Rattle.std.proofs.Common.{length}
use Rattle.plane_sweep.proofs.samples.near_pairs.Given as goal

abbrev pub invariant-loop-area : goal.invariant-loop-area
invariant-loop-area l = Unit {0}

abbrev pub decreases-loop-area : goal.decreases-loop-area
decreases-loop-area l = length l.rest
