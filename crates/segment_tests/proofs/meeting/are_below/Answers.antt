-- The greater of two numbers is below the lesser of two others exactly where each is below each.
use Rattle.std.proofs.Common.{◌≡◌, w64, FitsSigned, arith}
use Rattle.std.specs.Int.{int_max, int_min}
use Rattle.std.proofs.lemmas.Int.{to_z-of_z}
use Rattle.grid_exact.proofs.WholeLaws.{fits}
use Rattle.grid_exact.proofs.Orders.{below_tested}
use Rattle.segment_tests.proofs.Ranges.{below_by_max}
use Rattle.segment_tests.proofs.meeting.are_below.Goals as goal

pub returns : goal.returns
returns c =
    let high : FitsSigned w64 c.max.result = omega (arith, fits) in
    let low : FitsSigned w64 c.min.result = omega (arith, fits) in
    let most : c.max.result ≡ int_max c.args.a c.args.b = simp (to_z-of_z, c.ranges.a, c.ranges.b) at c.max.ensures.value in
    let least : c.min.result ≡ int_min c.args.c c.args.d = simp (to_z-of_z, c.ranges.c, c.ranges.d) at c.min.ensures.value in
    below_tested w64 c.max.result c.min.result (int_max c.args.a c.args.b) (int_min c.args.c c.args.d) high low most least
    (below_by_max c.args.a c.args.b c.args.c c.args.d)
