use Rattle.arrangement_check.proofs.LeastSoFar.{arranged_is}
use Rattle.plane_sweep.proofs.check.without_clash.Goals as goal

pub adopt-requires : goal.adopt-requires
adopt-requires c = arranged_is c.args.map c.requires c.in_default.ensures.none
