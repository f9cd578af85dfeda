use Rattle.std.proofs.Common.{◌+◌, ◌/◌, ◌<◌, arith}
use Rattle.std.proofs.Math.Nat.{div-lt_iff_lt-mul}
use Rattle.map_gen.proofs.lattice.Lattice.line.Goals as goal

pub returns-clause-within : goal.returns-clause-within
returns-clause-within c =
    let some : 0 < c.args.self.now.cols = omega (arith, c.requires.lattice.some_cols) in
    let below : c.args.arc / c.args.self.now.cols < c.args.self.now.rows + 1 = (div-lt_iff_lt-mul some).1 c.requires.arc in
    omega (arith, below, c.requires.lattice.few_rows)
