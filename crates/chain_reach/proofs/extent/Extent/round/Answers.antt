-- The box has room for one place more, and holds each that it held.
use Rattle.std.proofs.Common.{subst, take, arith}
use Rattle.std.proofs.lemmas.List.{take_all}
use Rattle.std.proofs.lemmas.List.Elements.{All-more, All-weaker}
use Rattle.chain_reach.specs.Extents.{IsInBox}
use Rattle.chain_reach.proofs.Numbered.{still_in_box}
use Rattle.chain_reach.proofs.extent.Extent.round.Goals as goal

pub loop-place-preserved : goal.loop-place-preserved
loop-place-preserved c =
    let places = c.args.places.now in
    let i = c.loop-place.place-index in
    let low = c.loop-place.low in let high = c.loop-place.high in
    let low' = c.low_corner-low.result in let high' = c.high_corner-high.result in
    All-more (IsInBox low' high') places i c.place-item.result (omega (arith, c.loop-place-test.true))
    (All-weaker (IsInBox low high) (IsInBox low' high') (λ q h.
    still_in_box low high low' high' q c.low_corner-low.ensures.first c.high_corner-high.ensures.first h) (take i places)
    c.loop-place.invariant)
    (subst (IsInBox low' high') c.place-item.is (record {
      from_low = c.low_corner-low.ensures.second;
      to_high =
          c.high_corner-high.ensures.second;
    }))

pub returns : goal.returns
returns c = rw (take_all c.loop-place.place-index c.args.places.now (omega (arith, c.loop-place-test.false))) at c.loop-place.invariant
