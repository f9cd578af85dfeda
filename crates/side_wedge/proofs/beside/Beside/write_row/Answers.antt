-- The wedge takes one edge more, and tells of the vertex at its end.
use Rattle.std.proofs.Common.{◌≡◌, ◌∙◌, false, get_or-set_other, ◌↔◌, ◌+◌, ◌<◌, IsTrue, length, sym, subst, arith, rules}
use Rattle.std.proofs.lemmas.List.{get_or_read}
use Rattle.grid_exact.specs.Geometry.{Place}
use Rattle.chain_side.specs.Along.{IsAlong, vertex_at}
use Rattle.side_wedge.specs.Wedge.{Lets}
use Rattle.side_wedge.proofs.Narrowing.{past_of, starts_still, lets_more, told_more, told_closed}
use Rattle.side_wedge.proofs.beside.Beside.write_row.Goals as goal

pub narrow-requires-clause-past : goal.narrow-requires-clause-past
narrow-requires-clause-past c hand p stands =
    let edge = c.loop-edge.edge in
    past_of c.loop-edge.wedge c.args.direction.frame c.args.direction.rising (vertex_at c.args.chain.now c.args.i) p
    c.loop-edge.invariant.origin (c.requires.past edge hand p c.loop-edge.invariant.reached (omega (arith, c.loop-edge-test.true))
    stands)

pub admits-requires : goal.admits-requires
admits-requires c =
    let edge = c.loop-edge.edge in
    let chain = c.args.chain.now in
    let start = vertex_at chain c.args.i in
    let low = c.loop-edge.invariant.reached in
    let within : edge + 1 < length chain = omega (arith, c.loop-edge-test.true) in
    let v : c.index-chain-edge.result ≡ vertex_at chain (edge + 1) = get_or_read chain (edge + 1) _ within c.index-chain-edge.is _ in
    let now = starts_still c.loop-edge.wedge c.narrow.new.wedge c.args.direction.frame c.args.direction.rising start
    c.loop-edge.invariant.origin c.narrow.ensures.origin in
    past_of c.narrow.new.wedge c.args.direction.frame c.args.direction.rising start c.index-chain-edge.result now
    (subst (λ (x : Place). IsAlong c.args.direction.frame c.args.direction.rising start x) (sym v)
    (c.requires.runs c.args.i (edge + 1) (omega arith) within))

pub loop-edge-preserved : goal.loop-edge-preserved
loop-edge-preserved c =
    let b = c.args.self.now in
    let edge = c.loop-edge.edge in
    let chain = c.args.chain.now in
    let frame = c.args.direction.frame in let rising = c.args.direction.rising in let i = c.args.i in
    let start = vertex_at chain i in
    let h = c.loop-edge.invariant in
    let low = h.reached in
    let within : edge + 1 < length chain = omega (arith, c.loop-edge-test.true) in
    let v : c.index-chain-edge.result ≡ vertex_at chain (edge + 1) = get_or_read chain (edge + 1) _ within c.index-chain-edge.is _ in
    let now = starts_still c.loop-edge.wedge c.narrow.new.wedge frame rising start h.origin c.narrow.ensures.origin in
    let lets = lets_more b frame rising start i edge c.loop-edge.wedge c.narrow.new.wedge h.reached h.origin now h.lets
    c.narrow.ensures.lets in
    let let_here = lets (vertex_at chain (edge + 1)) (c.requires.runs i (edge + 1) (omega arith) within) in
    let test = subst (λ (x : Place). IsTrue c.admits.result ↔ Lets c.narrow.new.wedge x) v c.admits.ensures in
    let count = h.count in let size = c.requires.row in
    record {
      reached = omega arith;
      origin = now;
      lets = lets;
      told = told_more b chain i edge c.loop-edge.row c.admits.result (omega (arith, within, count, size)) h.told (
        λ t.
            let_here.0 (test.0 t),
        λ k. test.1 (let_here.1 k),
      );
      before = λ j early. get_or-set_other c.loop-edge.row (edge + 1) j c.admits.result false (λ e. absurd (omega arith))
          ∙ h.before j early;
      count = search rules;
    }

pub returns-clause-told : goal.returns-clause-told
returns-clause-told c j low high =
    let h = c.loop-edge.invariant in
    h.told j low (omega (arith, high, h.count, c.requires.row, c.loop-edge-test.false))

pub returns-then-is_closed-clause-told : goal.returns-then-is_closed-clause-told
returns-then-is_closed-clause-told c j low high =
    let b = c.args.self.now in
    let edge = c.loop-edge.edge in
    let chain = c.args.chain.now in
    let frame = c.args.direction.frame in let rising = c.args.direction.rising in let i = c.args.i in
    let start = vertex_at chain i in
    let h = c.loop-edge.invariant in
    let now = starts_still c.loop-edge.wedge c.narrow.new.wedge frame rising start h.origin c.narrow.ensures.origin in
    let lets = lets_more b frame rising start i edge c.loop-edge.wedge c.narrow.new.wedge h.reached h.origin now h.lets
    c.narrow.ensures.lets in
    let within : j < length chain = omega (arith, high, c.clear_from.ensures.length, h.count, c.requires.row) in
    told_closed b frame rising chain i edge j c.narrow.new.wedge c.loop-edge.row c.clear_from.new.row c.requires.runs now lets
    (c.is_closed.ensures c.if-is_closed.true) h.told c.clear_from.ensures.before c.clear_from.ensures.clear low within high

pub returns-then-is_closed-clause-before : goal.returns-then-is_closed-clause-before
returns-then-is_closed-clause-before c j early = c.clear_from.ensures.before j (omega (arith, early, c.loop-edge.invariant.reached))
    ∙ c.loop-edge.invariant.before j early
