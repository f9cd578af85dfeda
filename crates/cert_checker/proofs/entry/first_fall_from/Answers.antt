-- A pair that is refused is taken into the cone; once that is closed, no later pair is near.
use Rattle.std.proofs.Common.{◌+◌, length, get_or, subst, sym, arith}
use Rattle.std.proofs.lemmas.List.{get_or_default}
use Rattle.arc_map.specs.Arranged.{nowhere}
use Rattle.error_cone.specs.declared.cone.Cone.{Cone}
use Rattle.error_cone.specs.Courses.{IsConeFrom, LetsNear}
use Rattle.error_cone.proofs.Courses.{cone_stays, lets_later, lets_taken}
use Rattle.cert_checker.specs.Runs.{place_at}
use Rattle.cert_checker.specs.Subject.{pairs_of}
use Rattle.cert_checker.proofs.Coned.{falls_closed, falls_more, falls_not, subject_count}
use Rattle.cert_checker.proofs.entry.first_fall_from.Goals as goal
use Rattle.cert_checker.proofs.entry.first_fall_from.Goals.{then-layers-j+else-allows+else-is_closed, else-layers-j}

pub returns-then-is_closed : goal.returns-then-is_closed
returns-then-is_closed c =
    let w = c.args.map.now in
    let s = c.args.subject.now in
    let ps = s.weighted.now in
    let old = c.loop-j.cone in
    let new = c.take.new.self in
    let count = subject_count w s.chain ps s.weights c.requires.subject in
    let p = get_or ps c.loop-j.j c.index-subject-j.result in
    let is = get_or_default ps c.loop-j.j c.index-subject-j.result nowhere (omega (arith, count, c.requires.layers, c.loop-j-test.true)) in
    falls_closed w s.chain ps s.weights s.bound c.args.layers.now c.args.i c.loop-j.j new c.requires.subject c.requires.layers (omega arith)
    (cone_stays old new (place_at ps) (length ps) s.bound c.args.i c.loop-j.invariant.cone c.take.ensures.origin)
    (lets_taken old new (place_at ps) (length ps) s.bound c.args.i c.loop-j.j p c.loop-j.invariant.cone (omega arith) is c.take.ensures.near
    c.loop-j.invariant.lets)
    (c.is_closed.ensures.0 c.if-is_closed.true)
    (falls_more (pairs_of w s.chain s.weights s.bound) c.args.layers.now c.args.i c.loop-j.j c.allows.result c.allows.ensures
    c.if-allows.false c.loop-j.invariant.nowhere)

pub loop-j-preserved : goal.loop-j-preserved
loop-j-preserved c =
    let w = c.args.map.now in
    let s = c.args.subject.now in
    let ps = s.weighted.now in
    let old = c.loop-j.cone in
    let held = c.loop-j.invariant in
    let count = subject_count w s.chain ps s.weights c.requires.subject in
    elim c.if-layers-j.branch [
      | then-layers-j+else-allows+else-is_closed t ↦
          let new = t.take.new.self in
          let p = get_or ps c.loop-j.j t.index-subject-j.result in
          let is = get_or_default ps c.loop-j.j t.index-subject-j.result nowhere
          (omega (arith, count, c.requires.layers, c.loop-j-test.true)) in
          record {
            nowhere = falls_more (pairs_of w s.chain s.weights s.bound) c.args.layers.now c.args.i c.loop-j.j t.allows.result
                t.allows.ensures t.if-allows.false held.nowhere;
            cone = subst (λ (x : Cone). IsConeFrom x (place_at ps) (length ps) s.bound c.args.i) (sym t.cone-is)
                (cone_stays old new (place_at ps) (length ps) s.bound c.args.i held.cone t.take.ensures.origin);
            lets = subst (λ (x : Cone). LetsNear x (place_at ps) (length ps) s.bound c.args.i (c.loop-j.j + 1)) (sym t.cone-is)
                (lets_taken old new (place_at ps) (length ps) s.bound c.args.i c.loop-j.j p held.cone (omega arith) is t.take.ensures.near
                held.lets);
          }
      | else-layers-j t ↦
          record {
            nowhere = falls_not (pairs_of w s.chain s.weights s.bound) c.args.layers.now c.args.i c.loop-j.j (λ falls.
                omega (arith, falls, t.if-layers-j.false, c.saturating_sub-limit.ensures)) held.nowhere;
            cone = subst (λ (x : Cone). IsConeFrom x (place_at ps) (length ps) s.bound c.args.i) (sym t.cone-is) held.cone;
            lets = subst (λ (x : Cone). LetsNear x (place_at ps) (length ps) s.bound c.args.i (c.loop-j.j + 1)) (sym t.cone-is)
                (lets_later old (place_at ps) (length ps) s.bound c.args.i c.loop-j.j held.lets);
          }
    ]
