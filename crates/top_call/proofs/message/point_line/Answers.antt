use Rattle.std.proofs.Common.{codes, decimal}
use Rattle.top_call.proofs.Grouping.{seven}
use Rattle.top_call.proofs.message.point_line.Goals as goal

pub returns : goal.returns
returns c =
    seven (codes "point ") (decimal c.args.point) (codes " lies on arc ") (decimal c.args.e.arc) (codes " edge ") (decimal c.args.e.at)
    (codes "\n")
