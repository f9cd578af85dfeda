-- The edges so far do not join the two places, and this one does or does not.
use Rattle.std.proofs.lemmas.Bool.{iff_false}
use Rattle.cert_checker.proofs.Steps.{says_no, says_yes, joins_found, joins_more, joins_none}
use Rattle.cert_checker.proofs.plain.joins.Goals as goal

pub returns-then-same_ends : goal.returns-then-same_ends
returns-then-same_ends c = says_yes (joins_found c.args.v c.args.w c.index-chain-at.result c.index-chain-at-in-loop-at.result
    c.args.chain.now c.loop-at.at c.loop-at.auto.at c.loop-at-test.true c.index-chain-at.is c.index-chain-at-in-loop-at.is
    (c.same_ends.ensures.0 c.if-same_ends.true))

pub loop-at-preserved : goal.loop-at-preserved
loop-at-preserved c = joins_more c.args.v c.args.w c.index-chain-at.result c.index-chain-at-in-loop-at.result c.args.chain.now c.loop-at.at
    c.loop-at.auto.at c.loop-at-test.true c.index-chain-at.is c.index-chain-at-in-loop-at.is
    (iff_false c.same_ends.ensures c.if-same_ends.false) c.loop-at.invariant

pub returns : goal.returns
returns c = says_no (joins_none c.args.v c.args.w c.args.chain.now c.loop-at.at c.loop-at-test.false c.loop-at.invariant)
