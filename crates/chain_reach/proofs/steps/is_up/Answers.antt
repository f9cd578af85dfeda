-- The sum fits, and is compared as it is.
use Rattle.std.proofs.Common.{pos, ◌+ℤ◌, w64, to_z, of_z, arith}
use Rattle.grid_exact.proofs.WholeLaws.{at_most_tested, fits}
use Rattle.chain_reach.proofs.steps.is_up.Goals as goal

pub returns : goal.returns
returns c = at_most_tested w64 c.y.result (to_z w64 (of_z w64 c.y-2.result) +ℤ to_z w64 (of_z w64 c.from.result)) c.args.a.y
    (c.args.b.y +ℤ pos c.args.steps.up) (omega (arith, fits)) (omega (arith, fits)) c.y.ensures.value (omega (arith, fits)) (λ h. h, λ h. h)
