-- Each list has a first place.
use Rattle.std.proofs.Common.{◌≡◌, ◌∙◌, ◌<◌, ℕ, List, [], ◌∷◌, map, ap, sym, length, slice_index, arith, rules}
use Rattle.std.proofs.lemmas.List.{get_or_default}
use Rattle.pyramid.specs.Places.{list_of}
use Rattle.pyramid.proofs.Listing.{list-at, each-pushed}
use Rattle.pyramid.proofs.places.first_places.Goals as goal

pub index-requires : goal.index-requires
index-requires c =
    let lists = c.args.places.now in
    let k = c.loop-list.list-index in
    let below : k < length lists = omega arith in
    let some = c.requires k below in
    let same = list-at lists k c.list-item.result below c.list-item.is in
    omega (arith, some, ap length same, c.list-item.result.ok.0)

pub loop-list-preserved : goal.loop-list-preserved
loop-list-preserved c =
    let lists = c.args.places.now in
    let k = c.loop-list.list-index in
    let below : k < length lists = omega arith in
    let same = list-at lists k c.list-item.result below c.list-item.is in
    let first : c.index.result.now ≡ slice_index c.list-item.result.items 0 = c.index.ensures
    ∙ get_or_default c.list-item.result.items 0 c.index.result.now 0 (omega (arith, c.requires k below, ap length same)) in
    let one : c.in_ok-vec.field-0.items ≡ slice_index (list_of lists k) 0 ∷ [] = c.in_ok-vec.ensures.items
    ∙ ap (λ (n : ℕ). n ∷ []) (first ∙ ap (λ (ns : List ℕ). slice_index ns 0) (sym same)) in
    record {
      count = search rules;
      room = search rules;
      each = each-pushed (λ j ns. ns ≡ map (slice_index (list_of lists j)) (0 ∷ [])) c.loop-list.left.items c.push_reserved.new.self.items
          c.in_ok-vec.field-0 k c.loop-list.invariant.count c.push_reserved.ensures.items c.loop-list.invariant.each one;
    }
