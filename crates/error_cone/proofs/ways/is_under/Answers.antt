-- The products are compared as they are.
use Rattle.std.proofs.Common.{w64, refl, arith}
use Rattle.grid_exact.proofs.WholeLaws.{fits, product_passed, at_most_tested}
use Rattle.error_cone.proofs.ways.is_under.Goals as goal

pub returns : goal.returns
returns c =
    let high = product_passed w64 c.product.result c.args.way.up c.args.limit.across _ _ c.product.ensures.value (omega (arith, fits))
    (omega (arith, fits)) refl refl in
    let low = product_passed w64 c.product-2.result c.args.way.across c.args.limit.up _ _ c.product-2.ensures.value (omega (arith, fits))
    (omega (arith, fits)) refl refl in
    at_most_tested w64 c.product.result c.product-2.result _ _ (omega (arith, fits)) (omega (arith, fits)) high low (λ h. h, λ h. h)
