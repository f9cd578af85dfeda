use Rattle.std.proofs.Common.{◌≤◌, sym, subst, arith}
use Rattle.side_wedge.specs.declared.strays.Stray.{Stray}
use Rattle.side_wedge.proofs.Written.{start_here}
use Rattle.side_wedge.proofs.strays.start_from.Goals as goal

pub returns-else-strays-at : goal.returns-else-strays-at
returns-else-strays-at c =
    let x = c.index-strays-at.result in
    let high = subst (λ (y : Stray). c.args.row ≤ y.row) (sym c.index-strays-at.is) c.if-strays-at.false in
    start_here c.args.strays.now c.args.row c.loop-at.at x c.requires.sorted (omega (arith, c.loop-at-test.true)) c.index-strays-at.is high
    c.loop-at.invariant.below
