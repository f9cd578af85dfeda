use Rattle.std.proofs.Common.{codes, decimal}
use Rattle.top_call.proofs.Grouping.{nine}
use Rattle.top_call.proofs.message.edges_line.Goals as goal

pub returns : goal.returns
returns c =
    nine (codes "arc ") (decimal c.args.e.arc) (codes " edge ") (decimal c.args.e.at) (codes " meets arc ") (decimal c.args.f.arc)
    (codes " edge ") (decimal c.args.f.at) (codes "\n")
