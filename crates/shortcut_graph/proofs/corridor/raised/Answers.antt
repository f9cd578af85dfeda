-- The number up is one of the grid, and no more than the bound above.
use Rattle.std.proofs.Common.{◌≡◌, ap, ◌∙◌, arith}
use Rattle.grid_exact.specs.Geometry.{Place}
use Rattle.grid_exact.proofs.WholeLaws.{sums}
use Rattle.side_wedge.proofs.Boxed.{passed, passed_on_grid}
use Rattle.shortcut_graph.proofs.Raised.{high_on_grid, sum_passed}
use Rattle.shortcut_graph.proofs.corridor.raised.Goals as goal

pub unreachable-requires : goal.unreachable-requires
unreachable-requires c =
    let grid = high_on_grid c.y.result c.value.result c.min.result c.y.ensures.on_grid c.value.ensures.low c.value.ensures.high
    c.min.ensures.value in
    let none = c.in-None.ensures.on_grid.1 (passed_on_grid c.x.result c.x.ensures.on_grid, passed_on_grid c.min.result grid) in
    absurd (cc)

pub returns-clause-up : goal.returns-clause-up
returns-clause-up c =
    let grid = high_on_grid c.y.result c.value.result c.min.result c.y.ensures.on_grid c.value.ensures.low c.value.ensures.high
    c.min.ensures.value in
    let up : c.in-Some.high.y ≡ c.min.result = ap (λ (p : Place). p.y) c.in-Some.ensures.value ∙ passed c.min.result grid in
    let sum = sum_passed c.y.result c.value.result c.y.ensures.on_grid c.value.ensures.low c.value.ensures.high in
    let most = c.min.ensures.self_bound in
    let y = c.y.ensures.value in
    let e = c.value.ensures.value in
    omega (arith, sums)
