-- The upper limit is not under the lower one.
use Rattle.std.proofs.Common.{w64, to_z, of_z, pos, ◌-ℤ◌, ◌*ℤ◌, refl, arith}
use Rattle.grid_exact.proofs.WholeLaws.{fits, product_passed}
use Rattle.error_cone.proofs.Cones.{shut_iff, below_tested}
use Rattle.error_cone.proofs.cone.Cone.is_closed.Goals as goal

pub returns : goal.returns
returns c =
    let w = c.args.self.now in
    let high = product_passed w64 c.product.result w.above.up w.below.across _ _ c.product.ensures.value (omega (arith, fits))
    (omega (arith, fits)) refl refl in
    let low = product_passed w64 c.product-2.result w.above.across w.below.up _ _ c.product-2.ensures.value (omega (arith, fits))
    (omega (arith, fits)) refl refl in
    below_tested (to_z w64 (of_z w64 c.product.result)) (to_z w64 (of_z w64 (pos 0 -ℤ to_z w64 (of_z w64 c.product-2.result))))
    (w.above.up *ℤ w.below.across) (pos 0 -ℤ w.above.across *ℤ w.below.up) (omega (arith, fits, high)) (omega (arith, fits, low))
    (shut_iff w)
