-- The first candidate, the next one, and the one that is allowed.
use Rattle.std.proofs.Common.{◌≡◌, ◌∙◌, inl, ℕ, ◌+◌, ◌<◌, ◌≤◌, IsTrue, length, refl, sym, subst, arith}
use Rattle.shortcut_graph.specs.Pairs.{AllowedBy, IsReach}
use Rattle.shortcut_graph.proofs.Marking.{never_true}
use Rattle.shortcut_graph.proofs.Searching.{candidate_start, candidate_more, candidate_found, not_last, fewer_left, far_past, reach_start}
use Rattle.shortcut_graph.proofs.layers.first_step.Goals as goal

pub loop-k-init : goal.loop-k-init
loop-k-init c =
    let r = c.args.ruler.now in
    let lay = c.args.layering.now in
    record {
      candidate = candidate_start (AllowedBy c.args.map.now c.args.k r.xs.now r.ys.now r.bound) lay.last c.args.start lay.front lay.layers
          c.first-next.result c.requires.front c.first-next.ensures;
      far = subst (λ (n : ℕ). IsReach r.xs.now r.ys.now r.bound c.args.start n) (sym c.last-reach.ensures)
          (reach_start r.xs.now r.ys.now r.bound c.args.start lay.last c.requires.last c.requires.within);
      found = c.requires.findings;
    }

pub returns-then-allows-clause-step : goal.returns-then-allows-clause-step
returns-then-allows-clause-step c =
    let r = c.args.ruler.now in
    let lay = c.args.layering.now in
    candidate_found (AllowedBy c.args.map.now c.args.k r.xs.now r.ys.now r.bound) lay.last c.args.start lay.layers c.loop-k.next
    (c.allows.ensures.allowed.0 c.if-allows.true) c.loop-k.invariant.candidate

pub following-next-requires-clause-before : goal.following-next-requires-clause-before
following-next-requires-clause-before c =
    let r = c.args.ruler.now in
    let lay = c.args.layering.now in
    not_last (AllowedBy c.args.map.now c.args.k r.xs.now r.ys.now r.bound) lay.last c.args.start lay.front lay.layers c.loop-k.next
    c.requires.front c.requires.within (inl refl) (λ pair. never_true c.allows.result c.if-allows.false
    (c.allows.ensures.allowed.1 pair)) c.loop-k.invariant.candidate

pub loop-k-preserved : goal.loop-k-preserved
loop-k-preserved c =
    let r = c.args.ruler.now in
    let lay = c.args.layering.now in
    let reach = c.narrowed-reach.result in
    let is_reach = c.narrowed-reach.ensures in
    let size = c.requires.last in
    let low = is_reach.within in
    record {
      candidate = candidate_more (AllowedBy c.args.map.now c.args.k r.xs.now r.ys.now r.bound) lay.last c.args.start lay.front reach
          lay.layers c.loop-k.next c.following-next.result c.requires.front (omega arith) (λ pair.
          never_true c.allows.result c.if-allows.false (c.allows.ensures.allowed.1 pair))
          (far_past c.args.map.now c.args.k r.xs.now r.ys.now r.bound c.args.start reach lay.last c.requires.last is_reach)
          c.following-next.ensures c.loop-k.invariant.candidate;
      far = is_reach;
      found = c.allows.ensures.findings;
    }

pub loop-k-smaller : goal.loop-k-smaller
loop-k-smaller c =
    let lay = c.args.layering.now in
    let is_reach = c.narrowed-reach.ensures in
    let low = is_reach.within in
    let size = c.requires.size in
    let last = c.requires.last in
    let within = c.loop-k.invariant.candidate.within in
    fewer_left lay.layers lay.front c.narrowed-reach.result c.loop-k.next c.following-next.result (omega arith) (omega arith)
    c.following-next.ensures
