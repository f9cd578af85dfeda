-- The root that is found is the greatest root of the product.
use Rattle.std.proofs.Common.{w64, to_z, of_z, arith, ◌≡◌, pos, ◌*ℤ◌, ◌≤ℤ◌, refl}
use Rattle.std.specs.Int.{w128}
use Rattle.std.specs.Prelude.{unsigned_abs}
use Rattle.std.proofs.lemmas.Int.{ints}
use Rattle.grid_exact.specs.Geometry.{square_of}
use Rattle.grid_exact.proofs.WholeLaws.{fits, product_passed}
use Rattle.grid_exact.proofs.Signs.{times_nonnegative, square_nonnegative}
use Rattle.grid_exact.proofs.SquareRoots.{greatest_root}
use Rattle.grid_exact.proofs.measure.threshold.Goals as goal

pub returns-clause-value : goal.returns-clause-value
returns-clause-value c =
    let reach : c.square-reach2.result ≡ square_of c.args.bound =
    product_passed w64 c.square-reach2.result c.value.result c.value.result c.args.bound c.args.bound c.square-reach2.ensures.value
    (omega (arith, fits)) (omega (arith, fits)) c.value.ensures.value c.value.ensures.value in
    let wide : c.wide_product.result ≡ square_of c.args.bound *ℤ c.args.len2 =
    product_passed w64 c.wide_product.result c.square-reach2.result c.args.len2 _ _ c.wide_product.ensures.value (omega (arith, fits))
    (omega (arith, fits)) reach refl in
    let some : pos 0 ≤ℤ (square_of c.args.bound *ℤ c.args.len2) =
    times_nonnegative (square_of c.args.bound) c.args.len2 (square_nonnegative c.args.bound) c.requires.low in
    let whole : square_of c.args.bound *ℤ c.args.len2 ≡ pos (unsigned_abs (to_z w128 (of_z w128 c.wide_product.result))) =
    omega (arith, fits) in
    let narrow : to_z w64 c.root_of.result ≡ pos c.root_of.result = omega (arith, ints) in
    greatest_root _ c.root_of.result _ _ whole narrow c.root_of.ensures.square c.root_of.ensures.next_square
