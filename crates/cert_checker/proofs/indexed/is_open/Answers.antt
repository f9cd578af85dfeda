-- The tests tell of the rest of the map.
use Rattle.std.proofs.Common.{◌+◌, ◌-◌, ◌<◌, take, drop, length, ap, subst, arith}
use Rattle.std.proofs.lemmas.Bool.{iff_false}
use Rattle.sweep_index.specs.Walk.{items_left}
use Rattle.arc_map.specs.Chains.{chain_at}
use Rattle.arc_map.proofs.Chained.{length-chain_places}
use Rattle.cert_checker.proofs.Opening.{double_not_open, double_read, open_from_tests, read_place, tests_from_open}
use Rattle.cert_checker.proofs.Parts.{RunParts, run_parts}
use Rattle.cert_checker.proofs.Steps.{says_no}
use Rattle.cert_checker.proofs.indexed.is_open.Goals as goal

pub returns-then-is_double : goal.returns-then-is_double
returns-then-is_double c =
    let w = c.args.map.now in
    let k = c.args.k in
    let i = c.args.i in
    let j = c.args.j in
    let ps = c.chain-chain.result.now in
    let start = read_place w.chains k i ps c.index-chain-i.result c.chain-chain.ensures.places
    (omega (arith, c.requires.within, c.requires.order)) c.index-chain-i.is in
    let end = read_place w.chains k j ps c.index-chain-j.result c.chain-chain.ensures.places c.requires.within c.index-chain-j.is in
    says_no (double_not_open w.chains w.read.points k i j ((double_read w.chains k i j _ _ start end).0
    (c.is_double.ensures.0 c.if-is_double.true)))

pub returns : goal.returns
returns c =
    let w = c.args.map.now in
    let k = c.args.k in
    let i = c.args.i in
    let j = c.args.j in
    let ps = c.chain-chain.result.now in
    let first = c.index-chain-i-2.result in
    let low = c.of-extent.result.low in
    let high = c.of-extent.result.high in
    let found = items_left c.in_box.result in
    let start = read_place w.chains k i ps c.index-chain-i.result c.chain-chain.ensures.places
    (omega (arith, c.requires.within, c.requires.order)) c.index-chain-i.is in
    let end = read_place w.chains k j ps c.index-chain-j.result c.chain-chain.ensures.places c.requires.within c.index-chain-j.is in
    let size : j < length ps = omega (
      arith,
      c.requires.within,
      length-chain_places (chain_at w.chains k),
      ap length
          c.chain-chain.ensures.places,
    ) in
    let rest = take (j + 1 - (i + 1)) (drop (i + 1) ps) in
    let parts = subst (λ qs. RunParts qs i j first (take (c.args.j + 1 - (c.args.i + 1)) (drop (c.args.i + 1) c.chain-chain.result.now)))
    c.chain-chain.ensures.places (run_parts ps i j first c.requires.order size c.index-chain-i-2.is) in (
      λ t. open_from_tests w found k i j low high first rest c.chain-chain.ensures.chains c.requires.clear c.in_box.ensures c.requires.order
          c.requires.within parts c.of-extent.ensures (λ d. iff_false c.is_double.ensures c.if-is_double.false
          ((double_read w.chains k i j _ _ start end).1 d)) (c.items_let.ensures.0 t),
      λ o. c.items_let.ensures.1 (tests_from_open w found k i j low high first rest c.chain-chain.ensures.edges c.in_box.ensures parts o),
    )
