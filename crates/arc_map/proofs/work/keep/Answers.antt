-- A kept position is never behind the place that it is moved to.
use Rattle.std.proofs.Common.{◌≡◌, ◌<◌, length, arith, rules}
use Rattle.arc_map.specs.Arranged.{nowhere}
use Rattle.arc_map.proofs.Rising.{place-le-number, rising-length}
use Rattle.arc_map.proofs.Keeping.{front_more, behind_more, all_kept}
use Rattle.arc_map.proofs.work.keep.Goals as goal

pub bounds-positions-place : goal.bounds-positions-place
bounds-positions-place c =
    let later = place-le-number c.args.kept.now c.requires.rising c.loop-place.place (search rules) in
    let within = c.requires.within c.loop-place.place 0 (search rules) in
    omega (arith, later, within, c.loop-place.auto.positions)

pub loop-place-preserved : goal.loop-place-preserved
loop-place-preserved c =
    let now = c.loop-place.positions in
    let before = c.args.positions.now in
    let here : c.loop-place.place < length c.args.kept.now = search rules in
    let later = place-le-number c.args.kept.now c.requires.rising c.loop-place.place here in
    let within = c.requires.within c.loop-place.place 0 here in
    let same = c.loop-place.auto.positions in
    record {
      front = front_more before now c.args.kept.now c.loop-place.place c.index-positions-at.result (omega (arith, later, within, same))
          (omega (arith, within, same)) later c.index-positions-at.is c.loop-place.invariant.front c.loop-place.invariant.behind;
      behind = behind_more before now c.loop-place.place c.index-positions-at.result c.loop-place.invariant.behind;
    }

pub returns-clause-front : goal.returns-clause-front
returns-clause-front c =
    let kept = c.args.kept.now in
    let few = rising-length (length c.args.positions.now) kept c.requires.rising c.requires.within in
    let whole : c.loop-place.place ≡ length kept = omega (arith, c.loop-place.auto.place-end, c.loop-place-test.false) in
    all_kept c.args.positions.now c.loop-place.positions kept nowhere (omega (arith, few, c.loop-place.auto.positions))
    (λ j e below. c.loop-place.invariant.front j e (omega arith))

pub returns-clause-fewer : goal.returns-clause-fewer
returns-clause-fewer c = rising-length (length c.args.positions.now) c.args.kept.now c.requires.rising c.requires.within
