use Rattle.std.proofs.Common.{◌≡◌, length, arith, subst}
use Rattle.face_parity.specs.Floors.{AreSpansTo}
use Rattle.face_parity.proofs.Lowest.{spans-more, spans-none}
use Rattle.face_parity.proofs.floors.spans_of.Goals as goal

pub loop-arc-init : goal.loop-arc-init
loop-arc-init c = rw c.new-spans.ensures.items (spans-none c.args.topology.now)

pub loop-arc-preserved : goal.loop-arc-preserved
loop-arc-preserved c = rw c.in_ok-push.ensures.items (spans-more c.args.topology.now c.loop-arc.arc c.loop-arc.spans.items c.of.result
    c.arc.result.now c.arc.ensures.value c.of.ensures c.loop-arc.invariant)

pub returns : goal.returns
returns c =
    let all : c.loop-arc.arc ≡ length c.args.topology.now.arcs = omega arith in
    subst (λ n. AreSpansTo c.args.topology.now n c.loop-arc.spans.items) all c.loop-arc.invariant
