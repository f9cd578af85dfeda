-- The way that is under the other one is the limit.
use Rattle.error_cone.proofs.Slopes.{takes_limit, keeps_limit, over_by}
use Rattle.error_cone.proofs.ways.flatter.Goals as goal

pub returns-then-is_under-clause-limit : goal.returns-then-is_under-clause-limit
returns-then-is_under-clause-limit c = takes_limit c.args.a c.args.b c.requires.a_forward c.requires.b_forward
    (c.is_under.ensures.0 c.if-is_under.true)

pub returns-else-is_under-clause-limit : goal.returns-else-is_under-clause-limit
returns-else-is_under-clause-limit c = keeps_limit c.args.a c.args.b c.requires.a_forward c.requires.b_forward
    (over_by c.args.a c.args.b c.is_under.result c.is_under.ensures c.if-is_under.false)
