-- One arc more has its places.
use Rattle.std.proofs.Common.{◌≡◌, ◌∙◌, [], ap, sym, length, rules}
use Rattle.std.specs.List.{range_with_len}
use Rattle.std.proofs.lemmas.Option.{get_or_from_slice_get}
use Rattle.arc_map.specs.Arranged.{arc_at}
use Rattle.pyramid.proofs.Listing.{each-pushed}
use Rattle.pyramid.proofs.places.all_places.Goals as goal

pub loop-arc-preserved : goal.loop-arc-preserved
loop-arc-preserved c =
    let m = c.args.map.now in
    let long : length c.arc.result.now ≡ length (arc_at m c.loop-arc.arc) =
    ap length (sym (get_or_from_slice_get m.arcs c.loop-arc.arc c.arc.result.now [] c.arc.ensures.value)) in
    let same : c.in_ok-places_below.field-0.items ≡ range_with_len 0 (length c.arc.result.now) = search rules in
    let one : c.in_ok-places_below.field-0.items ≡ range_with_len 0 (length (arc_at m c.loop-arc.arc)) = same
    ∙ ap (range_with_len 0) long in
    record {
      count = search rules;
      room = search rules;
      each = each-pushed (λ k ns. ns ≡ range_with_len 0 (length (arc_at m k))) c.loop-arc.places.items c.push_reserved.new.self.items
          c.in_ok-places_below.field-0 c.loop-arc.arc c.loop-arc.invariant.count c.push_reserved.ensures.items c.loop-arc.invariant.each
          one;
    }
