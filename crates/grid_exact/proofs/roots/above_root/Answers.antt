-- The start is above the root, and small enough to be squared.
use Rattle.std.proofs.Common.{◌*◌, ◌^◌, ◌/◌, ◌≤◌, arith}
use Rattle.std.proofs.Math.Nat.{one-le-pow}
use Rattle.std.proofs.Math.Pow.{pow_mono}
use Rattle.grid_exact.proofs.SquareRoots.{above_start, half_low, quotient_low, doubled}
use Rattle.grid_exact.proofs.roots.above_root.Goals as goal

pub returns-clause-above : goal.returns-clause-above
returns-clause-above c =
    let half = c.ilog2-half.result / 2 in
    let low : half ≤ 60 = half_low c.args.n c.ilog2-half.result c.ilog2-half.ensures.power_le c.requires in
    rw (doubled half low) (above_start c.args.n (2 ^ half) (one-le-pow half 2 (omega arith)))

pub returns-clause-low : goal.returns-clause-low
returns-clause-low c =
    let half = c.ilog2-half.result / 2 in
    let low : half ≤ 60 = half_low c.args.n c.ilog2-half.result c.ilog2-half.ensures.power_le c.requires in
    let power : 2 ^ half ≤ 2 ^ 60 = pow_mono low in
    let quotient : c.args.n / 2 ^ half ≤ 4 * 2 ^ half = quotient_low c.args.n c.ilog2-half.result c.ilog2-half.ensures.next_power_gt in
    rw (doubled half low) (omega arith)
