-- The lanes hold the areas, each less 1.
use Rattle.std.proofs.Common.{refl}
use Rattle.lane_kernels.proofs.Groups.{ways_by, on_left_lanes}
use Rattle.lane_kernels.proofs.lanes.four_on_left.Goals as goal

pub returns : goal.returns
returns c =
    let ways = ways_by c.args.a c.args.b c.x.result c.x-2.result c.y.result c.y-2.result c.x-3.result c.y-3.result
    (c.x.ensures.value, c.x.ensures.on_grid) (c.x-2.ensures.value, c.x-2.ensures.on_grid) (c.y.ensures.value, c.y.ensures.on_grid)
    (c.y-2.ensures.value, c.y-2.ensures.on_grid) c.x-3.ensures.value c.y-3.ensures.value in
    on_left_lanes c.args.a c.args.b c.args.xs.now c.args.ys.now c.args.at _ _ _ _ 1 ways
    (record { coordinates = c.requires.coordinates; room = c.requires.in_lists }) refl
