-- One record more has its places.
use Rattle.std.proofs.Common.{◌∙◌, ◌<◌, refl, subst, length, arith}
use Rattle.std.proofs.lemmas.List.{length-set}
use Rattle.std.proofs.lemmas.List.Elements.{All-get_or}
use Rattle.std.proofs.lemmas.Option.{get_or_from_slice_get, slice_get_within}
use Rattle.arc_map.specs.Records.{Record}
use Rattle.pyramid.specs.Places.{IsWithin}
use Rattle.pyramid.proofs.Listing.{added-read, places-more}
use Rattle.pyramid.proofs.places.places_left.Goals as goal

pub loop-k-preserved : goal.loop-k-preserved
loop-k-preserved c =
    let places = c.args.places.now in
    let entries = c.args.records.now.entries in
    let k = c.loop-k.k in
    let r : Record = record {
      arc = c.get-chain.result.arc;
      «from» = c.get-chain.result.«from»;
      kept = c.get-chain.result.kept.now;
      layers =
          c.get-chain.result.layers.now;
    } in
    let below = slice_get_within entries k r c.get-chain.ensures in
    let here = get_or_from_slice_get entries k r r c.get-chain.ensures in
    let fits : IsWithin places r = subst (IsWithin places) here (All-get_or (IsWithin places) entries k r below c.requires.within) in
    let inside = fits.arc in
    let under : r.arc < length c.loop-k.left.items = omega (arith, inside, c.loop-k.invariant.count) in
    let count = length-set c.loop-k.left.items r.arc c.add_kept.new.left in
    record {
      count = count ∙ c.loop-k.invariant.count;
      each = places-more places c.loop-k.left.items _ entries k r c.add_kept.new.left below here under refl
          (added-read places c.loop-k.left.items r.arc r.«from» r.kept c.as_slice.result.now c.index_mut.result.now
          c.index-places-arc.result c.add_kept.new.left under inside c.index_mut.ensures.value c.index-places-arc.is
          c.as_slice.ensures.value c.in_ok-add_kept.ensures)
          c.loop-k.invariant.each;
    }
