-- The sum fits, and is compared as it is.
use Rattle.std.proofs.Common.{pos, ◌+ℤ◌, w64, to_z, of_z, arith}
use Rattle.grid_exact.proofs.WholeLaws.{at_most_tested, fits}
use Rattle.chain_reach.proofs.steps.is_across.Goals as goal

pub returns : goal.returns
returns c = at_most_tested w64 c.x.result (to_z w64 (of_z w64 c.x-2.result) +ℤ to_z w64 (of_z w64 c.from.result)) c.args.a.x
    (c.args.b.x +ℤ pos c.args.steps.across) (omega (arith, fits)) (omega (arith, fits)) c.x.ensures.value (omega (arith, fits)) (
      λ h.
          h,
      λ h. h,
    )
