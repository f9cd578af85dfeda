-- The cone has taken the vertices before `end`.
use Rattle.std.proofs.Common.{length}
use Rattle.lane_kernels.specs.Places.{place_at}
use Rattle.error_cone.specs.Courses.{IsConeFrom, LetsNear}
use Rattle.shortcut_graph.proofs.reach.reach_of.Given as goal

abbrev pub invariant-loop-end : goal.invariant-loop-end
invariant-loop-end l = record {
  cone : IsConeFrom l.cone (place_at l.ruler.xs.now l.ruler.ys.now) (length l.ruler.xs.now) l.ruler.bound l.start;
  lets : LetsNear l.cone (place_at l.ruler.xs.now l.ruler.ys.now) (length l.ruler.xs.now) l.ruler.bound l.start l.end;
}
