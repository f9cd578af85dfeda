-- The products that the code makes are the weighted coordinates.
use Rattle.grid_exact.proofs.Weighted.{weight_passed, on_grid_passed}
use Rattle.grid_exact.proofs.weights.Weights.apply.Goals as goal

pub returns-clause-on_grid : goal.returns-clause-on_grid
returns-clause-on_grid c =
    let across = weight_passed c.x.result c.x-2.result c.args.self.x c.args.p.x c.x.ensures.in_range c.x-2.ensures.on_grid c.x.ensures.value
    c.x-2.ensures.value in
    let up = weight_passed c.y.result c.y-2.result c.args.self.y c.args.p.y c.y.ensures.in_range c.y-2.ensures.on_grid c.y.ensures.value
    c.y-2.ensures.value in
    on_grid_passed c.args.self.x c.args.self.y c.args.p _ _ across up c.new.ensures.on_grid

pub returns-clause-value : goal.returns-clause-value
returns-clause-value c =
    let across = weight_passed c.x.result c.x-2.result c.args.self.x c.args.p.x c.x.ensures.in_range c.x-2.ensures.on_grid c.x.ensures.value
    c.x-2.ensures.value in
    let up = weight_passed c.y.result c.y-2.result c.args.self.y c.args.p.y c.y.ensures.in_range c.y-2.ensures.on_grid c.y.ensures.value
    c.y-2.ensures.value in
    rw (across, up) at c.new.ensures.value
