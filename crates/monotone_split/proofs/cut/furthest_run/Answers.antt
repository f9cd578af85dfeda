-- The run ends where an edge goes another way, or at the limit.
use Rattle.std.proofs.Common.{arith, below_more}
use Rattle.monotone_split.proofs.FurthestRun.{furthest_where_it_turns, furthest_to_the_end, goes_same_way, goes_other_way}
use Rattle.monotone_split.proofs.cut.furthest_run.Goals as goal

pub returns-then-ne : goal.returns-then-ne
returns-then-ne c =
    let limit = c.min-limit.ensures in
    furthest_where_it_turns c.args.frame c.order-way.result c.args.positions.now c.loop-run.run c.min-limit.result c.requires.edge
    c.requires.arc (omega arith) (omega arith) (omega arith) (omega arith) c.loop-run.invariant
    (goes_other_way c.args.frame c.order.result c.order-way.result c.args.positions.now c.loop-run.run c.index-positions-run.result
    c.index-positions-run-in-loop-run.result c.ne.result (omega arith) c.index-positions-run.is c.index-positions-run-in-loop-run.is
    c.order.ensures.less c.order.ensures.equal c.order.ensures.greater c.ne.ensures c.if-ne.true)

pub loop-run-preserved : goal.loop-run-preserved
loop-run-preserved c =
    let limit = c.min-limit.ensures in
    below_more _ _ c.loop-run.invariant
    (goes_same_way c.args.frame c.order.result c.order-way.result c.args.positions.now c.loop-run.run c.index-positions-run.result
    c.index-positions-run-in-loop-run.result c.ne.result (omega arith) c.index-positions-run.is c.index-positions-run-in-loop-run.is
    c.order.ensures.less c.order.ensures.equal c.order.ensures.greater c.ne.ensures c.if-ne.false)

pub returns : goal.returns
returns c =
    let limit = c.min-limit.ensures in
    furthest_to_the_end c.args.frame c.order-way.result c.args.positions.now c.min-limit.result c.requires.edge c.requires.arc (omega arith)
    (omega arith) (omega arith) (λ more. omega arith)
    (λ k below. c.loop-run.invariant k (omega arith))
