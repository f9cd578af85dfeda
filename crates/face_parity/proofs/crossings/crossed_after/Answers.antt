use Rattle.std.proofs.Common.{◌<◌, length, rules, arith}
use Rattle.grid_exact.specs.Crossing.{is_crossed}
use Rattle.face_parity.proofs.Counting.{count-next}
use Rattle.face_parity.proofs.crossings.crossed_after.Goals as goal

pub loop-q-preserved : goal.loop-q-preserved
loop-q-preserved c =
    let within : c.loop-q.q-index < length c.args.rest.now = search rules in
    let next = count-next (is_crossed c.args.p) c.loop-q.before c.q-item.result c.args.rest.now c.loop-q.q-index within c.q-item.is in
    record {
      count = omega (arith, next, c.loop-q.invariant.count, c.crossing-count.ensures.value);
      few = omega (arith, c.loop-q.invariant.few, c.crossing-count.ensures.few);
    }
