-- The pair is allowed by its parts.
use Rattle.std.proofs.Common.{◌+◌, ◌<◌, length, ap, arith}
use Rattle.std.proofs.lemmas.Bool.{both_ways}
use Rattle.arc_map.specs.Chains.{IsWithinBound, chain_at}
use Rattle.arc_map.proofs.Chained.{length-chain_places}
use Rattle.cert_checker.proofs.Parts.{run_parts}
use Rattle.cert_checker.proofs.Pairs.{allowed_by_run}
use Rattle.cert_checker.proofs.plain.allowed.Goals as goal

pub returns-then-is_near : goal.returns-then-is_near
returns-then-is_near c =
    let ps = c.chain-chain.result.now in
    let order : c.args.i + 1 < c.args.j = omega arith in
    let size = length-chain_places (chain_at c.args.work.now.chains c.args.k) in
    let within : c.args.j < length ps = omega (arith, size, ap length c.chain-chain.ensures.places, c.requires.within) in
    let parts = run_parts ps c.args.i c.args.j c.index-chain-from.result c.requires.order within c.index-chain-from.is in
    let both = allowed_by_run (IsWithinBound c.args.weights.x c.args.weights.y c.args.bound) c.args.work.now.chains
    c.args.work.now.read.points c.args.k c.args.i c.args.j ps c.index-chain-from.result _ order c.requires.within
    c.chain-chain.ensures.places parts in
    (λ t. both.0 (c.is_near.ensures.0 c.if-is_near.true, c.is_open.ensures.0 t), λ a. c.is_open.ensures.1 (both.1 a).1)

pub returns-else-is_near : goal.returns-else-is_near
returns-else-is_near c =
    let ps = c.chain-chain.result.now in
    let order : c.args.i + 1 < c.args.j = omega arith in
    let size = length-chain_places (chain_at c.args.work.now.chains c.args.k) in
    let within : c.args.j < length ps = omega (arith, size, ap length c.chain-chain.ensures.places, c.requires.within) in
    let parts = run_parts ps c.args.i c.args.j c.index-chain-from.result c.requires.order within c.index-chain-from.is in
    let both = allowed_by_run (IsWithinBound c.args.weights.x c.args.weights.y c.args.bound) c.args.work.now.chains
    c.args.work.now.read.points c.args.k c.args.i c.args.j ps c.index-chain-from.result _ order c.requires.within
    c.chain-chain.ensures.places parts in
    (λ t. absurd (both_ways c.is_near.result c.if-is_near.false t), λ a. c.is_near.ensures.1 (both.1 a).0)
