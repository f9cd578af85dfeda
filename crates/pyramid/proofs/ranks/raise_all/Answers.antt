-- The ranks of one arc more are raised.
use Rattle.std.proofs.Common.{◌∙◌, ◌<◌, ℕ, List, get_or, length, refl, sym, subst, arith}
use Rattle.pyramid.specs.Places.{list_of, AreRaised}
use Rattle.pyramid.proofs.Listing.{list-at, list-or, within-read, all-raised-more}
use Rattle.pyramid.proofs.ranks.raise_all.Goals as goal

pub raise-requires : goal.raise-requires
raise-requires c =
    let k = c.loop-arc.arc in
    let inside = c.loop-arc-test.true in
    let below : k < length c.loop-arc.ranks = omega (arith, inside, c.loop-arc.invariant.long, c.requires.count) in
    within-read c.args.ranks.now c.loop-arc.ranks c.args.places.now k c.index-ranks-arc.result c.index-places-arc.result
    c.as_slice.result.now below inside (c.loop-arc.invariant.later k (omega arith)) c.index-places-arc.is c.as_slice.ensures.value
    (c.requires.within k inside)

pub loop-arc-preserved : goal.loop-arc-preserved
loop-arc-preserved c =
    let k = c.loop-arc.arc in
    let inside = c.loop-arc-test.true in
    let below : k < length c.loop-arc.ranks = omega (arith, inside, c.loop-arc.invariant.long, c.requires.count) in
    let new = c.raise.new.ranks in
    let one =
    subst (λ (rs : List ℕ). AreRaised rs new.items (list_of c.args.places.now k) c.args.rank)
    (sym (list-or c.loop-arc.ranks k c.index-ranks-arc.result below))
    (subst (λ (ps : List ℕ). AreRaised (get_or c.loop-arc.ranks k c.index-ranks-arc.result).items new.items ps c.args.rank)
    (c.as_slice.ensures.value ∙ sym (list-at c.args.places.now k c.index-places-arc.result inside c.index-places-arc.is))
    c.raise.ensures) in
    all-raised-more c.args.ranks.now c.loop-arc.ranks _ c.args.places.now c.args.rank k new below refl one c.loop-arc.invariant
