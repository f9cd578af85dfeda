-- The lanes hold the dot products and the areas, each beside its limit.
use Rattle.std.proofs.Common.{◌≡◌, ◌≤◌, ◌^◌, ◌-ℤ◌, pos, unsigned_abs, w64, to_z, of_z, refl, ap, arith}
use Rattle.grid_exact.specs.Geometry.{length2_of}
use Rattle.grid_exact.proofs.WholeLaws.{fits}
use Rattle.lane_kernels.proofs.Groups.{ways_by, in_band_lanes}
use Rattle.lane_kernels.proofs.lanes.four_in_band.Goals as goal

pub returns : goal.returns
returns c =
    let ways = ways_by c.args.a c.args.b c.x.result c.x-2.result c.y.result c.y-2.result c.x-3.result c.y-3.result
    (c.x.ensures.value, c.x.ensures.on_grid) (c.x-2.ensures.value, c.x-2.ensures.on_grid) (c.y.ensures.value, c.y.ensures.on_grid)
    (c.y-2.ensures.value, c.y-2.ensures.on_grid) c.x-3.ensures.value c.y-3.ensures.value in
    let long : unsigned_abs (length2_of c.args.a c.args.b) ≤ 2 ^ 61 = omega (arith, fits) in
    let whole : to_z w64 (of_z w64 c.length2.result) -ℤ pos 1 ≡ length2_of c.args.a c.args.b -ℤ pos 1 = omega (arith, fits) in
    in_band_lanes c.args.a c.args.b c.args.reach c.args.xs.now c.args.ys.now c.args.at _ _ _ _ 1
    (of_z w64 (to_z w64 (of_z w64 c.length2.result) -ℤ pos 1)) (of_z w64 c.args.reach) ways
    (record { coordinates = c.requires.coordinates; room = c.requires.in_lists })
    c.requires.reach_low c.requires.reach_high long refl (ap (of_z w64) whole) refl
