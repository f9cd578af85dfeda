use Rattle.std.proofs.Common.{◌<◌, ◌≤◌, All, length, subst, rules}
use Rattle.std.proofs.lemmas.List.{take_all}
use Rattle.face_parity.specs.Bounds.{IsIn}
use Rattle.face_parity.proofs.Rounding.{round-more, small-more}
use Rattle.face_parity.proofs.bounds.Bounds.round.Goals as goal

pub loop-p-preserved : goal.loop-p-preserved
loop-p-preserved c =
    let within : c.loop-p.p-index < length c.args.positions.now = search rules in
    record {
      round = round-more c.args.positions.now c.loop-p.p-index c.p-item.result c.loop-p.bounds c.with-bounds.result c.of-in-loop-p.result
          within c.p-item.is c.with-bounds.ensures c.of-in-loop-p.ensures c.loop-p.invariant.round;
      small = small-more c.loop-p.bounds c.with-bounds.result c.p-item.result c.of-in-loop-p.result c.with-bounds.ensures
          c.of-in-loop-p.ensures c.loop-p.invariant.small;
    }

pub returns-clause-round : goal.returns-clause-round
returns-clause-round c =
    let all : length c.args.positions.now ≤ c.loop-p.p-index = search rules in
    subst (All (IsIn c.loop-p.bounds)) (take_all c.loop-p.p-index c.args.positions.now all) c.loop-p.invariant.round
