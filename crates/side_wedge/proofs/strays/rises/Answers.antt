-- The first vertex and the last tell which way the chain runs.
use Rattle.std.proofs.Common.{◌≡◌, ◌↔◌, ◌-◌, IsTrue, length, subst, arith}
use Rattle.std.proofs.lemmas.List.{get_or_read}
use Rattle.grid_exact.specs.Geometry.{Place}
use Rattle.grid_exact.specs.Frame.{IsBeforeIn}
use Rattle.chain_side.specs.Along.{vertex_at}
use Rattle.chain_side.proofs.Told.{two_or_more}
use Rattle.side_wedge.proofs.Spanning.{runs_by_ends}
use Rattle.side_wedge.proofs.strays.rises.Goals as goal

pub returns : goal.returns
returns c =
    let chain = c.args.chain.now in
    let frame = c.args.frame in
    let two = two_or_more frame chain c.requires in
    let first : c.index-chain-0.result ≡ vertex_at chain 0 = get_or_read chain 0 _ (omega arith) c.index-chain-0.is _ in
    let last : c.index-chain-chain.result ≡ vertex_at chain (length chain - 1) =
    get_or_read chain (length chain - 1) _ (omega arith) c.index-chain-chain.is _ in
    runs_by_ends frame chain c.precedes.result c.requires
    (subst (λ (x : Place). IsTrue c.precedes.result ↔ IsBeforeIn frame x (vertex_at chain (length chain - 1))) first
    (subst (λ (y : Place). IsTrue c.precedes.result ↔ IsBeforeIn frame c.index-chain-0.result y) last c.precedes.ensures))
