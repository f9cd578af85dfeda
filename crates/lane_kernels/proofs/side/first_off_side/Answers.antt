-- To the right is to the left of the way back.
use Rattle.std.proofs.Common.{length}
use Rattle.lane_kernels.proofs.Between.{none_on_right, first_on_right}
use Rattle.lane_kernels.proofs.side.first_off_side.Goals as goal

pub returns-in-Left-clause-first : goal.returns-in-Left-clause-first
returns-in-Left-clause-first c = rw c.in-Left.is c.first_off_left.ensures.first

pub returns-in-Right-clause-none : goal.returns-in-Right-clause-none
returns-in-Right-clause-none c = rw c.in-Right.is (none_on_right c.args.a c.args.b c.args.xs.now c.args.ys.now
    c.first_off_left-in-Right.result c.first_off_left-in-Right.ensures.none)

pub returns-in-Right-clause-first : goal.returns-in-Right-clause-first
returns-in-Right-clause-first c = rw c.in-Right.is (first_on_right c.args.a c.args.b c.args.xs.now c.args.ys.now (length c.args.xs.now)
    c.first_off_left-in-Right.result c.first_off_left-in-Right.ensures.first)
