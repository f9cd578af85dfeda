-- The map at work knows its chain, and the index that each chain has an edge.
use Rattle.std.proofs.Common.{◌≡◌, ◌<◌, length, subst}
use Rattle.std.specs.Prelude.{All}
use Rattle.arc_map.specs.Chains.{chain_at, chain_places, AreChains}
use Rattle.arc_map.specs.Work.{Work}
use Rattle.map_index.proofs.indexed.IndexedMap.chain.Goals as goal

pub returns-clause-places : goal.returns-clause-places
returns-clause-places c = subst (λ (w : Work). c.chain.result.now ≡ chain_places (chain_at w.chains c.args.k)) c.self.view_is
    c.chain.ensures.places

pub returns-clause-edges : goal.returns-clause-edges
returns-clause-edges c = subst (λ (w : Work). All (λ chain. 0 < length chain.rest) w.chains) c.self.view_is
    c.self.invariant.at_work.chains.edges

pub returns-clause-chains : goal.returns-clause-chains
returns-clause-chains c = subst (λ (w : Work). AreChains w.chains) c.self.view_is c.chain.ensures.chains
