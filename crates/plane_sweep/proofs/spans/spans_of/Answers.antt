use Rattle.std.proofs.Common.{◌≡◌, length, arith, subst}
use Rattle.plane_sweep.specs.Spans.{AreSpansBefore}
use Rattle.plane_sweep.proofs.Spanning.{no_spans, spans_done, spans_reordered}
use Rattle.plane_sweep.proofs.spans.spans_of.Goals as goal

pub loop-arc-init : goal.loop-arc-init
loop-arc-init c = rw c.new-spans.ensures.items (no_spans c.args.map.now)

pub loop-arc-preserved : goal.loop-arc-preserved
loop-arc-preserved c = c.in_ok-push_arc.ensures

pub returns : goal.returns
returns c =
    let m = c.args.map.now in
    let spans = c.loop-arc.spans.items in
    let all : c.loop-arc.arc ≡ length m.arcs = omega arith in
    spans_reordered m spans c.sort_unstable_by.new.self.items c.sort_unstable_by.ensures.permutation
    (spans_done m spans (subst (λ k. AreSpansBefore m k 0 spans) all c.loop-arc.invariant))
