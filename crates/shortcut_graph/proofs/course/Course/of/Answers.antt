-- The weighted vertices run along as the chain does, and their ends tell which way.
use Rattle.std.proofs.Common.{◌≡◌, ◌∙◌, ◌↔◌, ◌-◌, IsTrue, length, pos, ◌<ℤ◌, ap, sym, subst, arith}
use Rattle.grid_exact.specs.Geometry.{Place}
use Rattle.grid_exact.specs.Frame.{IsBeforeIn}
use Rattle.grid_exact.specs.Runs.{IsMonotone}
use Rattle.grid_exact.specs.declared.frame.Frame.{Frame}
use Rattle.grid_exact.proofs.Commons.{same_place}
use Rattle.grid_exact.proofs.WholeLaws.{fits}
use Rattle.lane_kernels.specs.Places.{place_at}
use Rattle.arc_map.specs.Arranged.{nowhere}
use Rattle.arc_map.specs.Chains.{chain_at}
use Rattle.arc_map.specs.Vertices.{places}
use Rattle.error_cone.proofs.Courses.{weighted_runs}
use Rattle.shortcut_graph.proofs.course.Course.of.Goals as goal

pub returns : goal.returns
returns c =
    let r = c.args.ruler.now in
    let chain = chain_at c.args.map.now.chains c.args.k in
    let weighed = c.requires.weighed in
    let frame = c.frame-frame.result in
    let rising = c.precedes-rising.result in
    let last = length r.xs.now - 1 in
    let count : length c.chain.result.now - 1 ≡ length r.xs.now - 1 = omega (arith, ap length c.chain.ensures.places, weighed.count) in
    let at_last = c.point_at-last.ensures ∙ ap (place_at r.xs.now r.ys.now) count in
    let wide : pos 0 <ℤ r.weights.x = omega (arith, fits, c.x.ensures.value, c.x.ensures.in_range.low) in
    let high : pos 0 <ℤ r.weights.y = omega (arith, fits, c.y.ensures.value, c.y.ensures.in_range.low) in
    let known : frame ≡ chain.frame = c.frame-frame.ensures in
    let test : IsTrue rising ↔ IsBeforeIn frame (place_at r.xs.now r.ys.now 0) (place_at r.xs.now r.ys.now last) =
    subst (λ (p : Place). IsTrue rising ↔ IsBeforeIn frame p (place_at r.xs.now r.ys.now last)) c.point_at-first.ensures
    (subst (λ (p : Place). IsTrue rising ↔ IsBeforeIn frame c.point_at-first.result p) at_last c.precedes-rising.ensures) in
    weighted_runs r.weights.x r.weights.y frame rising chain.first.place (places chain.rest) nowhere (place_at r.xs.now r.ys.now)
    (length r.xs.now) wide high
    (subst (λ (f : Frame). IsMonotone f chain.first.place (places chain.rest)) (sym known) (c.chain.ensures.chains.monotone c.args.k))
    weighed.count
    (λ k within. same_place _ _ (weighed.across k (omega (arith, within, weighed.count)))
    (weighed.up k (omega (arith, within, weighed.count)))) test
