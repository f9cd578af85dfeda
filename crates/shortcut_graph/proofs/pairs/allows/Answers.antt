-- A pair is allowed where its vertices are neighbours, or where it has no double edge, is near, and nothing changes sides.
use Rattle.std.proofs.Common.{◌≡◌, refl}
use Rattle.shortcut_graph.specs.Weighed.{IsNearRun}
use Rattle.shortcut_graph.proofs.Marking.{by_next, by_sides, double_ready, never_true, not_by_double, not_by_far}
use Rattle.shortcut_graph.proofs.pairs.allows.Goals as goal

pub returns-then-end-start-clause-allowed : goal.returns-then-end-start-clause-allowed
returns-then-end-start-clause-allowed c =
    let r = c.args.ruler.now in
    (λ t. by_next c.args.map.now c.args.k r.xs.now r.ys.now r.bound c.args.start c.args.end c.if-end-start.true, λ allowed. refl)

pub returns-then-has_double-clause-allowed : goal.returns-then-has_double-clause-allowed
returns-then-has_double-clause-allowed c =
    let w = c.args.map.now in
    let r = c.args.ruler.now in
    let double = (double_ready w c.args.k c.args.beside.now r.weights r.bound r.xs.now r.ys.now c.args.start c.args.end _ c.requires.ready
    c.requires.order c.requires.within c.has_double.ensures).0 c.if-has_double.true in (
      λ t. absurd (cc),
      λ allowed. absurd (not_by_double w c.args.k r.xs.now r.ys.now r.bound c.args.start c.args.end c.if-end-start.false double allowed),
    )

pub returns-then-not-is_near-clause-allowed : goal.returns-then-not-is_near-clause-allowed
returns-then-not-is_near-clause-allowed c =
    let r = c.args.ruler.now in
    let far : ¬ (IsNearRun r.xs.now r.ys.now r.bound c.args.start c.args.end) =
    (λ near. never_true c.is_near.result c.if-not-is_near.true (c.is_near.ensures.near.1 near)) in (
      λ t. absurd (cc),
      λ allowed. absurd (not_by_far c.args.map.now c.args.k r.xs.now r.ys.now r.bound c.args.start c.args.end c.if-end-start.false far
          allowed),
    )

pub returns-clause-allowed : goal.returns-clause-allowed
returns-clause-allowed c =
    let w = c.args.map.now in
    let r = c.args.ruler.now in
    let double = double_ready w c.args.k c.args.beside.now r.weights r.bound r.xs.now r.ys.now c.args.start c.args.end _ c.requires.ready
    c.requires.order c.requires.within c.has_double.ensures in
    by_sides w c.args.k c.args.beside.now r.weights r.bound r.xs.now r.ys.now c.args.start c.args.end _ c.requires.ready c.requires.order
    c.requires.within c.if-end-start.false (λ has. never_true c.has_double.result c.if-has_double.false (double.1 has))
    (c.is_near.ensures.near.0 c.if-not-is_near.false) c.is_consistent.ensures.consistent c.is_consistent.ensures.near
