-- The first point and the limit, and then the rest.
use Rattle.std.proofs.Common.{length, rules}
use Rattle.side_wedge.proofs.Tighter.{tightest_of_none}
use Rattle.side_wedge.proofs.limits.tightest.Goals as goal

pub returns-then-is_empty : goal.returns-then-is_empty
returns-then-is_empty c = λ frame rising past each. tightest_of_none frame rising c.args.hand c.args.start c.args.limit c.args.xs.now
    c.args.ys.now (length c.args.xs.now) (search rules) past
