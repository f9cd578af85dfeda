-- Straight up there is no limit.
use Rattle.error_cone.specs.Ways.{way_of, mirrored}
use Rattle.error_cone.proofs.Slopes.{along_forward, under_up}
use Rattle.error_cone.proofs.cone.Cone.start.Goals as goal

pub returns-clause-lets : goal.returns-clause-lets
returns-clause-lets c = λ v past. let ahead = along_forward c.args.direction.frame c.args.direction.rising c.args.from v past in
    record {
      above = under_up (way_of c.args.direction.frame c.args.direction.rising c.args.from v) ahead.across;
      below =
          under_up (mirrored (way_of c.args.direction.frame c.args.direction.rising c.args.from v)) ahead.across;
    }
