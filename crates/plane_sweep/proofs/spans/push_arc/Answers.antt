use Rattle.std.proofs.Common.{◌≡◌, ◌+◌, ◌-◌, ◌<◌, ◌++◌, ◌∷◌, [], length, arith, subst}
use Rattle.arc_map.specs.Arranged.{arc_at}
use Rattle.sweep_index.proofs.Reading.{arc_length, some_position}
use Rattle.plane_sweep.specs.Spans.{AreSpansBefore}
use Rattle.plane_sweep.proofs.Spanning.{arc_done, with_span}
use Rattle.plane_sweep.proofs.spans.push_arc.Goals as goal

pub loop-at-preserved : goal.loop-at-preserved
loop-at-preserved c =
    let m = c.args.map.now in
    let arc = c.args.arc in
    let at = c.loop-at.at in
    let ps = c.arc-positions.result.now in
    let some = c.loop-at.auto.at in
    let within : at < length ps = omega arith in
    let next : at - 1 + 1 ≡ at + 1 - 1 = omega (arith, some) in
    let more = with_span m arc (at - 1) ps c.loop-at.spans.items c.span_at.result c.arc-positions.ensures.value
    (omega (arith, some, within)) c.span_at.ensures c.loop-at.invariant in
    rw c.in_ok-push.ensures.items (subst (λ n. AreSpansBefore m arc n (c.loop-at.spans.items ++ c.span_at.result ∷ [])) next more)

pub returns : goal.returns
returns c =
    let m = c.args.map.now in
    let arc = c.args.arc in
    let at = c.loop-at.at in
    let ps = c.arc-positions.result.now in
    let long = arc_length m arc ps c.arc-positions.ensures.value in
    let some = some_position ps c.arc-positions.ensures.is_arc in
    let last : at - 1 ≡ length (arc_at m arc) - 1 = omega (arith, long, some) in
    arc_done m arc c.loop-at.spans.items (subst (λ n. AreSpansBefore m arc n c.loop-at.spans.items) last c.loop-at.invariant)
