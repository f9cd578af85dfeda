use Rattle.arrangement_check.proofs.LeastSoFar.{arranged_is}
use Rattle.arrangement_check.proofs.meeting.check_towns.Goals as goal

pub adopt-requires : goal.adopt-requires
adopt-requires c = arranged_is c.args.map c.requires.no_clash c.in_default.ensures.none
