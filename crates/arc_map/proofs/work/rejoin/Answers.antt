-- One chain more is written behind the positions that are there.
use Rattle.std.proofs.Common.{◌≡◌, ◌∙◌, ◌+◌, ◌<◌, ◌++◌, [], ◌∷◌, get_or, take, drop, length, ap, sym, refl, arith, append-nil, length-set}
use Rattle.arc_map.specs.Live.{chain_of}
use Rattle.arc_map.specs.Rejoin.{run_from, tails, rejoined}
use Rattle.arc_map.proofs.Rejoining.{no_part, run_from-end, run_from-other, run_from-next, part_opened, first_set, tails-written}
use Rattle.arc_map.proofs.Rejoining.{tails-length}
use Rattle.arc_map.proofs.work.rejoin.Goals as goal
use Rattle.arc_map.proofs.work.rejoin.Goals.{then-loop-next-test+else-chains-next, else-loop-next-test}
use Rattle.arc_map.proofs.work.rejoin.Goals.{then-start-chains-via-then-start-chains}
use Rattle.arc_map.proofs.work.rejoin.Goals.{then-start-chains-via-else-start-chains+then-chains-start}

none_left : (c : goal.Joined-then-start-chains) → run_from c.args.number c.args.start c.args.vertices.now c.args.chains.now ≡ []
none_left c =
    elim c.then-start-chains.branch [
      | then-start-chains-via-then-start-chains w ↦
          run_from-end c.args.number c.args.start c.args.vertices.now c.args.chains.now w.if-start-chains.true
      | then-start-chains-via-else-start-chains+then-chains-start w ↦
          run_from-other c.args.number c.args.start c.args.vertices.now c.args.chains.now
          (omega (arith, c.requires.known, w.if-start-chains.false)) w.if-chains-start.true
    ]

pub returns-then-start-chains-clause-arc : goal.returns-then-start-chains-clause-arc
returns-then-start-chains-clause-arc c = rw (none_left c) refl

pub returns-then-start-chains-clause-next : goal.returns-then-start-chains-clause-next
returns-then-start-chains-clause-next c = let none = ap length (none_left c) in omega (arith, none)

pub loop-next-init : goal.loop-next-init
loop-next-init c =
    let vs = c.args.vertices.now in
    let ss = c.args.chains.now in
    let start = c.args.start in
    let inside : start < length ss = omega (arith, c.requires.known, c.if-start-chains.false) in
    let s = get_or ss start no_part in
    let run = run_from-next c.args.number start vs ss inside c.if-chains-start.false in
    let opened = part_opened vs s c.index-vertices-chains.result (c.requires.within start no_part inside) in
    let p = c.index-vertices-chains.result in
    let rest = tails (chain_of vs s ∷ run_from c.args.number (start + 1) vs ss) in
    let first = first_set c.args.arc.now.items p (omega (arith, c.requires.room)) in
    record {
      order = c.requires.known;
      whole = ap (λ ps. ps ++ tails (run_from c.args.number start vs ss)) first
          ∙ ap (λ cs. (p ∷ []) ++ tails cs) run
          ∙ ap (λ q. (q ∷ []) ++ rest) c.index-vertices-chains.is
          ∙ sym (ap (λ ps. take 1 ps ++ rest) opened)
          ∙ ap (rejoined c.args.arc.now.items) (sym run);
      room = omega (arith, c.requires.room, length-set c.args.arc.now.items 0 p);
      count = refl;
    }

pub write_at-requires : goal.write_at-requires
write_at-requires c =
    let vs = c.args.vertices.now in
    let ss = c.args.chains.now in
    let next = c.loop-next.next in
    let s = get_or ss next no_part in
    let run = run_from-next c.args.number next vs ss c.loop-next-test.true c.if-chains-next.true in
    let opened = part_opened vs s (get_or vs s.start c.index-vertices-chains.result)
    (c.requires.within next no_part c.loop-next-test.true) in
    let rest = ap (λ ps. length (drop 1 ps)) opened in
    let count = tails-length (chain_of vs s) (run_from c.args.number (next + 1) vs ss) in
    let room = rw run at c.loop-next.invariant.room in
    omega (arith, rest, count, room)

pub loop-next-preserved : goal.loop-next-preserved
loop-next-preserved c =
    let vs = c.args.vertices.now in
    let ss = c.args.chains.now in
    let next = c.loop-next.next in
    let s = get_or ss next no_part in
    let behind = run_from c.args.number (next + 1) vs ss in
    let run = run_from-next c.args.number next vs ss c.loop-next-test.true c.if-chains-next.true in
    let opened = part_opened vs s (get_or vs s.start c.index-vertices-chains.result)
    (c.requires.within next no_part c.loop-next-test.true) in
    let rest = ap (drop 1) opened in
    let size = ap length rest in
    let count = tails-length (chain_of vs s) behind in
    let room = rw run at c.loop-next.invariant.room in
    let whole = rw run at c.loop-next.invariant.whole in
    let one_more = rw run at c.loop-next.invariant.count in
    record {
      order = omega (arith, c.loop-next-test.true);
      whole = ap (λ ps. ps ++ tails behind) c.write_at.ensures.front
          ∙ ap (λ ps. (take c.loop-next.end c.loop-next.arc.items ++ ps) ++ tails behind) (sym rest)
          ∙ tails-written (take c.loop-next.end c.loop-next.arc.items) (chain_of vs s) behind ∙ whole;
      room = omega (arith, size, count, room, c.write_at.ensures.count);
      count = omega (arith, one_more);
    }

-- where the loop ends no chain of the arc is left
all_written : (c : goal.After-truncate) → run_from c.args.number c.loop-next.next c.args.vertices.now c.args.chains.now ≡ []
all_written c =
    elim c.loop-next-test.branch [
      | then-loop-next-test+else-chains-next w ↦
          run_from-other c.args.number c.loop-next.next c.args.vertices.now c.args.chains.now w.loop-next-test.true w.if-chains-next.false
      | else-loop-next-test w ↦ run_from-end c.args.number c.loop-next.next c.args.vertices.now c.args.chains.now
          (omega (arith, c.loop-next.invariant.order, w.loop-next-test.false))
    ]

pub returns-clause-arc : goal.returns-clause-arc
returns-clause-arc c =
    let whole = rw (all_written c) at c.loop-next.invariant.whole in
    c.truncate.ensures.items ∙ sym (append-nil (take c.loop-next.end c.loop-next.arc.items)) ∙ whole

pub returns-clause-next : goal.returns-clause-next
returns-clause-next c =
    let count = rw (all_written c) at c.loop-next.invariant.count in
    omega (arith, count)
