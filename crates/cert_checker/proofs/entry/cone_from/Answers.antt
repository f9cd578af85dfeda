-- The places run along, and nothing is taken yet.
use Rattle.std.proofs.Common.{◌↔◌, ◌-◌, IsTrue, length, pos, ◌<ℤ◌, subst, sym, arith}
use Rattle.grid_exact.specs.Frame.{IsBeforeIn}
use Rattle.grid_exact.specs.declared.frame.Frame.{Frame}
use Rattle.grid_exact.proofs.WholeLaws.{fits}
use Rattle.error_cone.specs.Courses.{RunsAlong}
use Rattle.error_cone.proofs.Courses.{cone_starts, lets_all}
use Rattle.cert_checker.specs.Runs.{place_at}
use Rattle.cert_checker.proofs.Coned.{read_at, subject_count, subject_runs}
use Rattle.cert_checker.proofs.entry.cone_from.Goals as goal

pub returns-clause-start : goal.returns-clause-start
returns-clause-start c =
    let w = c.args.map.now in
    let s = c.args.subject.now in
    let ps = s.weighted.now in
    let wide : pos 0 <ℤ s.weights.x = omega (arith, fits, c.x.ensures.value, c.x.ensures.in_range.low) in
    let high : pos 0 <ℤ s.weights.y = omega (arith, fits, c.y.ensures.value, c.y.ensures.in_range.low) in
    let count = subject_count w s.chain ps s.weights c.requires.subject in
    let first = read_at ps 0 c.index-places-0.result (omega (arith, count)) c.index-places-0.is in
    let last = read_at ps (length ps - 1) c.index-places-places.result (omega (arith, count)) c.index-places-places.is in
    let runs = subject_runs w s.chain ps s.weights c.precedes-rising.result c.index-places-0.result c.index-places-places.result
    c.requires.subject wide high first last (subst (λ (f : Frame). IsTrue c.precedes-rising.result
    ↔ IsBeforeIn f c.index-places-0.result c.index-places-places.result) c.frame-frame.ensures c.precedes-rising.ensures) in
    cone_starts c.start.result c.frame-frame.result c.precedes-rising.result (place_at ps) (length ps) s.bound c.args.i
    c.index-places-i.result c.start.ensures.origin (read_at ps c.args.i c.index-places-i.result c.requires.start c.index-places-i.is)
    (subst (λ (f : Frame). RunsAlong f c.precedes-rising.result (place_at ps) (length ps)) (sym c.frame-frame.ensures) runs)

pub returns-clause-lets : goal.returns-clause-lets
returns-clause-lets c = lets_all c.start.result (place_at c.args.subject.now.weighted.now) (length c.args.subject.now.weighted.now)
    c.args.subject.now.bound c.args.i (returns-clause-start c) c.start.ensures.lets
