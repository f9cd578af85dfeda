-- What stands beside the chain between the two keeps its side exactly where the pair is consistent.
use Rattle.std.proofs.Common.{◌≡◌, ◌∙◌, ◌↔◌, ◌+◌, IsTrue, length, ap, subst, arith}
use Rattle.std.proofs.lemmas.List.{get_or_read}
use Rattle.grid_exact.specs.Geometry.{Place}
use Rattle.chain_side.specs.Along.{vertex_at}
use Rattle.side_wedge.specs.Rows.{KeepsEdges}
use Rattle.arc_map.specs.Chains.{chain_at}
use Rattle.arc_map.proofs.Chained.{length-chain_places}
use Rattle.side_wedge.proofs.Exact.{tells_pair}
use Rattle.side_wedge.proofs.beside.Beside.is_consistent.Goals as goal

pub returns-clause-consistent : goal.returns-clause-consistent
returns-clause-consistent c =
    let w = c.args.map.now in
    let chain = c.chain-chain.result.now in
    let i = c.args.i in let j = c.args.j in
    let b = c.args.self.now in
    let size : length chain ≡ length (chain_at w.chains c.args.k).rest + 1 = ap length c.chain-chain.ensures.places
    ∙ length-chain_places (chain_at w.chains c.args.k) in
    let order = c.requires.order in let within = c.requires.within in
    let a : c.index-chain-i.result ≡ vertex_at chain i = get_or_read chain i _ (omega arith) c.index-chain-i.is _ in
    let v : c.index-chain-j.result ≡ vertex_at chain j = get_or_read chain j _ (omega arith) c.index-chain-j.is _ in
    let told = subst (λ (x : Place). IsTrue c.keeps_all.result ↔ KeepsEdges b i j x (vertex_at chain j)) a
    (subst (λ (x : Place). IsTrue c.keeps_all.result ↔ KeepsEdges b i j c.index-chain-i.result x) v c.keeps_all.ensures) in
    (tells_pair w.chains w.read.points c.args.k b chain i j _ c.chain-chain.ensures.places c.chain-chain.ensures.chains c.requires.clear
    c.requires.beside c.requires.order (omega arith) told).told

pub returns-clause-near : goal.returns-clause-near
returns-clause-near c =
    let w = c.args.map.now in
    let chain = c.chain-chain.result.now in
    let i = c.args.i in let j = c.args.j in
    let b = c.args.self.now in
    let size : length chain ≡ length (chain_at w.chains c.args.k).rest + 1 = ap length c.chain-chain.ensures.places
    ∙ length-chain_places (chain_at w.chains c.args.k) in
    let order = c.requires.order in let within = c.requires.within in
    let a : c.index-chain-i.result ≡ vertex_at chain i = get_or_read chain i _ (omega arith) c.index-chain-i.is _ in
    let v : c.index-chain-j.result ≡ vertex_at chain j = get_or_read chain j _ (omega arith) c.index-chain-j.is _ in
    let told = subst (λ (x : Place). IsTrue c.keeps_all.result ↔ KeepsEdges b i j x (vertex_at chain j)) a
    (subst (λ (x : Place). IsTrue c.keeps_all.result ↔ KeepsEdges b i j c.index-chain-i.result x) v c.keeps_all.ensures) in
    (tells_pair w.chains w.read.points c.args.k b chain i j _ c.chain-chain.ensures.places c.chain-chain.ensures.chains c.requires.clear
    c.requires.beside c.requires.order (omega arith) told).near
