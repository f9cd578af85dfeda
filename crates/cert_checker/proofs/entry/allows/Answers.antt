-- The pair is allowed by its parts.
use Rattle.std.proofs.Common.{◌+◌, ◌<◌, length, arith}
use Rattle.std.proofs.lemmas.Bool.{both_ways}
use Rattle.arc_map.specs.Chains.{IsWithinBound, chain_at, chain_places}
use Rattle.arc_map.proofs.Chained.{length-chain_places}
use Rattle.cert_checker.proofs.Nearby.{near_by_weighted}
use Rattle.cert_checker.proofs.Pairs.{allowed_by_parts}
use Rattle.cert_checker.proofs.entry.allows.Goals as goal

pub returns-then-is_near : goal.returns-then-is_near
returns-then-is_near c =
    let w = c.args.map.now in
    let s = c.args.subject.now in
    let order : c.args.i + 1 < c.args.j = omega (arith, c.if-i-j.false, c.requires.order) in
    let within : c.args.j < length (chain_places (chain_at w.chains s.chain)) =
    omega (arith, c.requires.within, length-chain_places (chain_at w.chains s.chain)) in
    let near = near_by_weighted s.weights.x s.weights.y s.bound (chain_places (chain_at w.chains s.chain)) s.weighted.now c.args.i c.args.j
    c.requires.subject.weighed c.requires.order within in
    let both = allowed_by_parts (IsWithinBound s.weights.x s.weights.y s.bound) w.chains w.read.points s.chain c.args.i c.args.j order
    c.requires.within in
    (λ t. both.0 (near.0 (c.is_near.ensures.0 c.if-is_near.true), c.is_open.ensures.0 t), λ a. c.is_open.ensures.1 (both.1 a).1)

pub returns-else-is_near : goal.returns-else-is_near
returns-else-is_near c =
    let w = c.args.map.now in
    let s = c.args.subject.now in
    let order : c.args.i + 1 < c.args.j = omega (arith, c.if-i-j.false, c.requires.order) in
    let within : c.args.j < length (chain_places (chain_at w.chains s.chain)) =
    omega (arith, c.requires.within, length-chain_places (chain_at w.chains s.chain)) in
    let near = near_by_weighted s.weights.x s.weights.y s.bound (chain_places (chain_at w.chains s.chain)) s.weighted.now c.args.i c.args.j
    c.requires.subject.weighed c.requires.order within in
    let both = allowed_by_parts (IsWithinBound s.weights.x s.weights.y s.bound) w.chains w.read.points s.chain c.args.i c.args.j order
    c.requires.within in
    (λ t. absurd (both_ways c.is_near.result c.if-is_near.false t), λ a. c.is_near.ensures.1 (near.1 (both.1 a).0))
