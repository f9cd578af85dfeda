-- A chain that runs one way is over a place with one edge at most.
use Rattle.std.proofs.Common.{◌≡◌, ◌∙◌, ℕ, ◌+◌, ◌-◌, length, subst, sym, ap, arith, Some}
use Rattle.std.proofs.lemmas.List.{get_or_read}
use Rattle.grid_exact.specs.Geometry.{Place}
use Rattle.grid_exact.proofs.Orders.{denied}
use Rattle.chain_side.specs.Along.{IsAlong, vertex_at}
use Rattle.side_wedge.proofs.Spanning.{over_past_start, over_before_end, is_over}
use Rattle.side_wedge.proofs.strays.edge_under.Goals as goal
use Rattle.side_wedge.proofs.strays.edge_under.Goals.{then-comes_before-via-then-comes_before}
use Rattle.side_wedge.proofs.strays.edge_under.Goals.{then-comes_before-via-else-comes_before+then-comes_before-2}

pub returns-then-comes_before-clause-all : goal.returns-then-comes_before-clause-all
returns-then-comes_before-clause-all c s runs over =
    let chain = c.args.chain.now in
    let frame = c.args.direction.frame in let rising = c.args.direction.rising in let p = c.args.p in
    let first : c.index-chain-0.result ≡ vertex_at chain 0 = get_or_read chain 0 _ (omega arith) c.index-chain-0.is _ in
    elim c.then-comes_before.branch [
      | then-comes_before-via-then-comes_before w ↦ absurd (over_past_start frame rising chain p s runs over
          (subst (λ (x : Place). IsAlong frame rising p x) first (c.comes_before.ensures.0 w.if-comes_before.true)))
      | then-comes_before-via-else-comes_before+then-comes_before-2 w ↦
          let last : w.index-chain-last.result ≡ vertex_at chain (length chain - 1) =
          get_or_read chain (length chain - 1) _ (omega arith) w.index-chain-last.is _ in
          absurd (over_before_end frame rising chain p s runs over
          (subst (λ (x : Place). IsAlong frame rising x p) last (w.comes_before-else-comes_before.ensures.0 w.if-comes_before-2.true)))
    ]

pub returns-then-is_between-clause-all : goal.returns-then-is_between-clause-all
returns-then-is_between-clause-all c s runs over =
    let found = c.edge_at-edge.ensures in
    ap Some (is_over c.args.direction.frame c.args.direction.rising c.args.chain.now c.args.p c.edge_at-edge.result s runs over
    found.in_chain found.from_start found.to_end)

pub returns-else-is_between-clause-all : goal.returns-else-is_between-clause-all
returns-else-is_between-clause-all c s runs over =
    let chain = c.args.chain.now in
    let frame = c.args.direction.frame in let rising = c.args.direction.rising in let p = c.args.p in
    let found = c.edge_at-edge.ensures in
    let inside = found.in_chain in
    let e = c.edge_at-edge.result in
    let same : s ≡ e = sym (is_over frame rising chain p e s runs over found.in_chain found.from_start found.to_end) in
    let a : c.index-chain-edge.result ≡ vertex_at chain e = get_or_read chain e _ (omega arith) c.index-chain-edge.is _ in
    let b : c.index-chain-edge-2.result ≡ vertex_at chain (e + 1) = get_or_read chain (e + 1) _ (omega arith) c.index-chain-edge-2.is _ in
    let start = subst (λ (x : Place). IsAlong frame rising x p) (ap (vertex_at chain) same ∙ sym a) over.start in
    let end = subst (λ (x : Place). IsAlong frame rising p x) (ap (λ (i : ℕ). vertex_at chain (i + 1)) same ∙ sym b) over.end in
    absurd (denied c.is_between.result c.if-is_between.false (c.is_between.ensures.1 (start, end)))
