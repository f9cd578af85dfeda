-- The chain's direction and the edge that p has come to, in the words of the lemmas.
use Rattle.std.proofs.Common.{◌≡◌, inl, inr, ◌+◌, ◌-◌, Bool, length, subst, arith}
use Rattle.std.proofs.lemmas.List.{get_or_read}
use Rattle.grid_exact.specs.Geometry.{Place}
use Rattle.chain_side.specs.Along.{IsAlong, vertex_at}
use Rattle.chain_side.specs.Sides.{IsSideOfEdge}
use Rattle.chain_side.proofs.Told.{two_or_more, Directed, directed_by, ReachesEdge, told_outside, told_by_rising, told_by_falling}
use Rattle.chain_side.proofs.decide.side.Goals as goal
use Rattle.chain_side.proofs.decide.side.Goals.{then-comes_before-via-then-comes_before}
use Rattle.chain_side.proofs.decide.side.Goals.{then-comes_before-via-else-comes_before+then-comes_before-2}

pub returns-then-comes_before : goal.returns-then-comes_before
returns-then-comes_before c =
    let chain = c.args.chain.now in
    let two = two_or_more c.args.frame chain c.requires in
    let first : c.index-chain-0.result ≡ vertex_at chain 0 = get_or_read chain 0 _ (omega arith) c.index-chain-0.is _ in
    let last : c.index-chain-chain.result ≡ vertex_at chain (length chain - 1) =
    get_or_read chain (length chain - 1) _ (omega arith) c.index-chain-chain.is _ in
    let d = directed_by c.args.frame chain c.precedes-rising.result _ _ c.requires first last c.precedes-rising.ensures in
    elim c.then-comes_before.branch [
      | then-comes_before-via-then-comes_before w ↦
          told_outside c.args.frame chain c.precedes-rising.result c.args.p d
          (inl (subst (λ (x : Place). IsAlong c.args.frame c.precedes-rising.result c.args.p x) first
          (c.comes_before.ensures.0 w.if-comes_before.true)))
      | then-comes_before-via-else-comes_before+then-comes_before-2 w ↦
          told_outside c.args.frame chain c.precedes-rising.result c.args.p d
          (inr (subst (λ (x : Place). IsAlong c.args.frame c.precedes-rising.result x c.args.p) last
          (w.comes_before-else-comes_before.ensures.0 w.if-comes_before-2.true)))
    ]

pub returns-then-rising : goal.returns-then-rising
returns-then-rising c =
    let chain = c.args.chain.now in
    let two = two_or_more c.args.frame chain c.requires in
    let at = c.edge_at-at.result in
    let found = c.edge_at-at.ensures in
    let inside = found.in_chain in
    let first : c.index-chain-0.result ≡ vertex_at chain 0 = get_or_read chain 0 _ (omega arith) c.index-chain-0.is _ in
    let last : c.index-chain-chain.result ≡ vertex_at chain (length chain - 1) =
    get_or_read chain (length chain - 1) _ (omega arith) c.index-chain-chain.is _ in
    let a : c.index-chain-at.result ≡ vertex_at chain at = get_or_read chain at _ (omega arith) c.index-chain-at.is _ in
    let b : c.index-chain-at-then-rising.result ≡ vertex_at chain (at + 1) =
    get_or_read chain (at + 1) _ (omega arith) c.index-chain-at-then-rising.is _ in
    let d = directed_by c.args.frame chain c.precedes-rising.result _ _ c.requires first last c.precedes-rising.ensures in
    let reached : ReachesEdge c.args.frame chain c.precedes-rising.result c.args.p at =
    record { in_chain = found.in_chain; from_start = found.from_start; to_end = found.to_end } in
    told_by_rising c.args.frame chain c.args.p at
    (subst (Directed c.args.frame chain) c.if-rising.true d)
    (subst (λ (r : Bool). ReachesEdge c.args.frame chain r c.args.p at) c.if-rising.true reached)
    c.side_of_edge.result
    (subst (λ (x : Place). IsSideOfEdge c.args.frame x (vertex_at chain (at + 1)) c.args.p c.side_of_edge.result) a
    (subst (λ (y : Place). IsSideOfEdge c.args.frame c.index-chain-at.result y c.args.p c.side_of_edge.result) b
    c.side_of_edge.ensures))

pub returns-else-rising : goal.returns-else-rising
returns-else-rising c =
    let chain = c.args.chain.now in
    let two = two_or_more c.args.frame chain c.requires in
    let at = c.edge_at-at.result in
    let found = c.edge_at-at.ensures in
    let inside = found.in_chain in
    let first : c.index-chain-0.result ≡ vertex_at chain 0 = get_or_read chain 0 _ (omega arith) c.index-chain-0.is _ in
    let last : c.index-chain-chain.result ≡ vertex_at chain (length chain - 1) =
    get_or_read chain (length chain - 1) _ (omega arith) c.index-chain-chain.is _ in
    let b : c.index-chain-at-else-rising.result ≡ vertex_at chain (at + 1) =
    get_or_read chain (at + 1) _ (omega arith) c.index-chain-at-else-rising.is _ in
    let a : c.index-chain-at-else-rising-2.result ≡ vertex_at chain at =
    get_or_read chain at _ (omega arith) c.index-chain-at-else-rising-2.is _ in
    let d = directed_by c.args.frame chain c.precedes-rising.result _ _ c.requires first last c.precedes-rising.ensures in
    let reached : ReachesEdge c.args.frame chain c.precedes-rising.result c.args.p at =
    record { in_chain = found.in_chain; from_start = found.from_start; to_end = found.to_end } in
    told_by_falling c.args.frame chain c.args.p at
    (subst (Directed c.args.frame chain) c.if-rising.false d)
    (subst (λ (r : Bool). ReachesEdge c.args.frame chain r c.args.p at) c.if-rising.false reached)
    c.side_of_edge-else-rising.result
    (subst (λ (x : Place). IsSideOfEdge c.args.frame x (vertex_at chain at) c.args.p c.side_of_edge-else-rising.result) b
    (subst (λ (y : Place). IsSideOfEdge c.args.frame c.index-chain-at-else-rising.result y c.args.p c.side_of_edge-else-rising.result) a
    c.side_of_edge-else-rising.ensures))
