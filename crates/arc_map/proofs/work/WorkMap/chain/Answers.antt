-- The positions in memory are the places of the vertices.
use Rattle.std.proofs.Common.{subst, arith}
use Rattle.arc_map.specs.Chains.{AreChains}
use Rattle.arc_map.specs.Work.{Work}
use Rattle.arc_map.specs.Live.{chain_of}
use Rattle.arc_map.proofs.Alive.{count_alike, places_alike}
use Rattle.arc_map.proofs.Chained.{are_chains}
use Rattle.arc_map.proofs.Finding.{found}
use Rattle.arc_map.proofs.work.WorkMap.chain.Goals as goal

pub returns-clause-places : goal.returns-clause-places
returns-clause-places c =
    let w = c.self.inside in
    let x = chain_of w.vertices.items c.index.result.now in
    let f = found w c.args.self.now c.args.k c.index.result.now c.self.view_is c.self.invariant c.requires c.index.ensures in
    rw (c.deref.ensures.value, ← c.self.view_is, f.chain) (places_alike w.base x f.live.spans f.live.positions)

pub returns-clause-several : goal.returns-clause-several
returns-clause-several c =
    let w = c.self.inside in
    let f = found w c.args.self.now c.args.k c.index.result.now c.self.view_is c.self.invariant c.requires c.index.ensures in
    rw c.deref.ensures.value (omega (arith, f.live.spans.several, count_alike w.base (chain_of w.vertices.items c.index.result.now) f.live))

pub returns-clause-short : goal.returns-clause-short
returns-clause-short c =
    let w = c.self.inside in
    let f = found w c.args.self.now c.args.k c.index.result.now c.self.view_is c.self.invariant c.requires c.index.ensures in
    rw c.deref.ensures.value (omega (arith, f.live.short, count_alike w.base (chain_of w.vertices.items c.index.result.now) f.live))

pub returns-clause-distinct : goal.returns-clause-distinct
returns-clause-distinct c =
    let f = found c.self.inside c.args.self.now c.args.k c.index.result.now c.self.view_is c.self.invariant c.requires c.index.ensures in
    rw c.deref.ensures.value f.live.distinct

pub returns-clause-chains : goal.returns-clause-chains
returns-clause-chains c = subst (λ (w : Work). AreChains w.chains) c.self.view_is (are_chains c.self.inside c.self.invariant)
