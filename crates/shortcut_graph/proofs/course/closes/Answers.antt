-- The vertex is taken.
use Rattle.std.proofs.Common.{length}
use Rattle.lane_kernels.specs.Places.{place_at}
use Rattle.error_cone.proofs.Courses.{lets_taken}
use Rattle.shortcut_graph.proofs.course.closes.Goals as goal

pub returns-clause-lets : goal.returns-clause-lets
returns-clause-lets c i order cone lets =
    let r = c.args.ruler.now in
    lets_taken c.args.cone.now c.take.new.self (place_at r.xs.now r.ys.now) (length r.xs.now) r.bound i c.args.end c.point_at.result cone
    order c.point_at.ensures c.take.ensures.near lets
