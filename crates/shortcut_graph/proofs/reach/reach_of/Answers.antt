-- Once the cone is closed, no later vertex is near.
use Rattle.std.proofs.Common.{◌+◌, length, arith}
use Rattle.lane_kernels.specs.Places.{place_at}
use Rattle.error_cone.proofs.Courses.{none_near}
use Rattle.shortcut_graph.proofs.reach.reach_of.Goals as goal

pub loop-end-preserved : goal.loop-end-preserved
loop-end-preserved c =
    let start = c.args.start in
    let held = c.loop-end.invariant in
    record {
      cone = c.closes.ensures.start start held.cone;
      lets = c.closes.ensures.lets start (omega arith) held.cone held.lets;
    }

pub returns-then-closes : goal.returns-then-closes
returns-then-closes c =
    let r = c.args.ruler.now in
    let start = c.args.start in
    let end = c.loop-end.end in
    let held = c.loop-end.invariant in
    let far = none_near c.closes.new.cone (place_at r.xs.now r.ys.now) (length r.xs.now) r.bound start (end + 1) (omega arith)
    (c.closes.ensures.start start held.cone) (c.closes.ensures.lets start (omega arith) held.cone held.lets)
    (c.closes.ensures.closed c.if-closes.true) in
    record {
      after = omega arith;
      within = omega arith;
      far = λ j up high near. far j (omega arith) high (λ k after before. near k (omega arith) before);
    }

pub returns : goal.returns
returns c = record { after = omega arith; within = omega arith; far = λ j up high near. absurd (omega arith) }
