-- The chains that end at v are looked at.
use Rattle.std.proofs.Common.{arith}
use Rattle.cert_checker.proofs.Doubled.{double_found, double_missed, ends_there}
use Rattle.cert_checker.proofs.Steps.{says_no, says_yes}
use Rattle.cert_checker.proofs.indexed.is_double.Goals as goal

pub chain-requires : goal.chain-requires
chain-requires c = (ends_there c.args.map.now.chains c.args.v c.chains_at-other-items.result.now c.loop-other.other-index
    c.chains_at-other-items.ensures c.loop-other-test.true).0

pub returns-then-is_edge : goal.returns-then-is_edge
returns-then-is_edge c =
    says_yes (double_found c.args.map.now.chains c.args.k c.args.v c.args.w c.chains_at-other-items.result.now c.loop-other.other-index
    c.chain.result.now c.chains_at-other-items.ensures c.loop-other-test.true c.if-other-k.true c.chain.ensures.places
    (c.is_edge.ensures.0 c.if-is_edge.true))

pub returns : goal.returns
returns c =
    says_no (double_missed c.args.map.now.chains c.args.k c.args.v c.args.w c.chains_at-other-items.result.now
    c.chains_at-other-items.ensures (λ n within. c.loop-other.invariant n (omega (arith, within))))
