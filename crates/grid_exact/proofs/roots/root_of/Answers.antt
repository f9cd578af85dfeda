-- Newton's step keeps the number above the root, and falls.
use Rattle.std.proofs.Common.{arith}
use Rattle.grid_exact.proofs.SquareRoots.{above_next, next_below}
use Rattle.grid_exact.proofs.roots.root_of.Goals as goal

pub loop-root-preserved : goal.loop-root-preserved
loop-root-preserved c =
    let falls = next_below c.args.n c.loop-root.root c.loop-root-test.true in
    (omega arith, above_next c.args.n c.loop-root.root c.loop-root-test.true)

pub loop-root-smaller : goal.loop-root-smaller
loop-root-smaller c = next_below c.args.n c.loop-root.root c.loop-root-test.true
