-- The groups before have all passed.
use Rattle.std.proofs.Common.{length, pos, ◌<ℤ◌}
use Rattle.grid_exact.specs.Geometry.{area_of}
use Rattle.lane_kernels.proofs.Between.{first_from}
use Rattle.lane_kernels.proofs.side.first_off_left.Goals as goal

pub returns-clause-first : goal.returns-clause-first
returns-clause-first c = first_from c.loop-at.at (length c.args.xs.now) (λ p. pos 0 <ℤ area_of c.args.a c.args.b p) c.args.xs.now
    c.args.ys.now c.first_not_left.result c.loop-at.invariant.tested c.first_not_left.ensures.first
