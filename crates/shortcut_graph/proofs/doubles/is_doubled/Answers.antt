-- The table lists each chain that may be a twin.
use Rattle.std.proofs.Common.{refl}
use Rattle.arc_map.specs.Chains.{chain_at}
use Rattle.shortcut_graph.proofs.Numbers.{first_read, last_read}
use Rattle.shortcut_graph.proofs.Twins.{AreItsEnds, listed_within, found, none_found}
use Rattle.shortcut_graph.proofs.doubles.is_doubled.Goals as goal

pub is_twin-requires : goal.is_twin-requires
is_twin-requires c = listed_within c.args.map.now.chains c.index-chain-0.result c.chains_at-other-items.result.now c.loop-other.other-index
    c.chains_at-other-items.ensures c.loop-other-test.true

pub returns-then-is_twin : goal.returns-then-is_twin
returns-then-is_twin c =
    let chain = chain_at c.args.map.now.chains c.args.k in
    let ends : AreItsEnds c.args.map.now.chains c.args.k c.index-chain-0.result c.index-chain-chain.result = record {
      first = first_read chain c.chain-chain.result.now c.index-chain-0.result c.chain-chain.ensures.places c.index-chain-0.is;
      last = last_read chain c.chain-chain.result.now c.index-chain-chain.result c.chain-chain.ensures.places c.index-chain-chain.is;
    } in
    let within = listed_within c.args.map.now.chains c.index-chain-0.result c.chains_at-other-items.result.now c.loop-other.other-index
    c.chains_at-other-items.ensures c.loop-other-test.true in
    (λ t. found c.args.map.now.chains c.args.k _ _ _ ends within (c.if-is_twin.ensures.0 t), λ d. refl)

pub returns : goal.returns
returns c =
    let chain = chain_at c.args.map.now.chains c.args.k in
    let ends : AreItsEnds c.args.map.now.chains c.args.k c.index-chain-0.result c.index-chain-chain.result = record {
      first = first_read chain c.chain-chain.result.now c.index-chain-0.result c.chain-chain.ensures.places c.index-chain-0.is;
      last = last_read chain c.chain-chain.result.now c.index-chain-chain.result c.chain-chain.ensures.places c.index-chain-chain.is;
    } in (
      λ t. absurd (cc),
      λ d. absurd (none_found c.args.map.now.chains c.args.k c.loop-other.other-index _ _ c.chains_at-other-items.result.now ends
          c.chains_at-other-items.ensures c.loop-other.invariant c.loop-other-test.false d),
    )
