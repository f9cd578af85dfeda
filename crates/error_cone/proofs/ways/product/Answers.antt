-- The product of two small numbers is exact, and fits.
use Rattle.std.proofs.Common.{w64, arith, ◌^◌}
use Rattle.std.proofs.lemmas.Int.{to_z-of_z, fits_signed_mul, unsigned_abs-mul}
use Rattle.std.proofs.lemmas.Nat.{mul-le}
use Rattle.error_cone.proofs.ways.product.Goals as goal

pub returns-clause-value : goal.returns-clause-value
returns-clause-value c =
    let a_fits = c.ranges.a in
    let b_fits = c.ranges.b in
    let product_fits = fits_signed_mul w64 c.args.a c.args.b (2 ^ 31) (2 ^ 31) c.requires.a_small c.requires.b_small (omega arith) in
    simp to_z-of_z

pub returns-clause-bounded : goal.returns-clause-bounded
returns-clause-bounded c =
    let size = mul-le _ _ (2 ^ 31) (2 ^ 31) c.requires.a_small c.requires.b_small in
    rw (returns-clause-value c) (rw unsigned_abs-mul size)
