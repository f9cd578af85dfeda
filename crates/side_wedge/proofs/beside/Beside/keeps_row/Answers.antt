-- The places of the row are those with its coordinates.
use Rattle.std.proofs.Common.{refl}
use Rattle.lane_kernels.specs.Hands.{IsOnSide}
use Rattle.side_wedge.proofs.Narrowing.{each_in_row, row_has_each}
use Rattle.side_wedge.proofs.beside.Beside.keeps_row.Goals as goal

pub returns-in-None : goal.returns-in-None
returns-in-None c = (
  λ t. each_in_row (IsOnSide c.args.hand c.args.a c.args.v) c.args.self.now c.args.row c.row.result.0.now c.row.result.1.now c.row.ensures
      (c.in-None.ensures.none.0 refl),
  λ keeps. refl,
)

pub returns-in-Some : goal.returns-in-Some
returns-in-Some c = (
  λ t. absurd (cc),
  λ keeps. let none = c.in-Some.ensures.none.1 (row_has_each (IsOnSide c.args.hand c.args.a c.args.v) c.args.self.now c.args.row
      c.row.result.0.now c.row.result.1.now c.row.ensures keeps) in absurd (cc),
)
