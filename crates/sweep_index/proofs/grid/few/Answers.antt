-- Neither number is above the root.
use Rattle.std.proofs.Common.{◌≤◌, ◌^◌, arith, mul-le-mul}
use Rattle.sweep_index.proofs.grid.few.Goals as goal

pub returns-clause-cells : goal.returns-clause-cells
returns-clause-cells c =
    let rows : c.min.result ≤ 2 ^ 11 = omega (arith, c.min.ensures) in
    let columns : c.min-2.result ≤ 2 ^ 11 = omega (arith, c.min-2.ensures) in
    mul-le-mul rows columns
