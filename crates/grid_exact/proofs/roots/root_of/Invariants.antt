-- The number is not below the root, and it falls.
use Rattle.std.proofs.Common.{◌+◌, ◌*◌, ◌^◌, ◌<◌, ◌≤◌}
use Rattle.grid_exact.proofs.roots.root_of.Given as goal

abbrev pub invariant-loop-root : goal.invariant-loop-root
invariant-loop-root l = (l.root ≤ 2 ^ 62) × (l.n < (l.root + 1) * (l.root + 1))

abbrev pub decreases-loop-root : goal.decreases-loop-root
decreases-loop-root l = l.root
