-- Both rows.
use Rattle.lane_kernels.specs.declared.side.Hand.TheVariants.{Left, Right}
use Rattle.side_wedge.proofs.Pairs.{keeps_both}
use Rattle.side_wedge.proofs.beside.Beside.keeps_edge.Goals as goal

pub returns-then-not-keeps_row : goal.returns-then-not-keeps_row
returns-then-not-keeps_row c = (
  λ t. absurd (cc),
  λ keeps. let no = c.if-not-keeps_row.true in let yes =
      c.keeps_row.ensures.1 (keeps Left) in absurd (cc),
)

pub returns : goal.returns
returns c = (
  λ t. keeps_both c.args.self.now c.args.edge c.args.a c.args.v (c.keeps_row.ensures.0 c.if-not-keeps_row.false)
      (c.keeps_row-2.ensures.0 t),
  λ keeps. c.keeps_row-2.ensures.1 (keeps Right),
)
