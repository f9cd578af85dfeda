-- The positions of one arc more have the rank 0.
use Rattle.std.proofs.Common.{◌≡◌, ◌∙◌, ℕ, List, [], ap, sym, get_or, length, replicate, rules}
use Rattle.std.proofs.lemmas.List.{length-replicate}
use Rattle.std.proofs.lemmas.Option.{get_or_from_slice_get}
use Rattle.arc_map.specs.Arranged.{arc_at}
use Rattle.pyramid.proofs.Listing.{each-pushed, zeros}
use Rattle.pyramid.proofs.ranks.no_ranks.Goals as goal

pub loop-arc-preserved : goal.loop-arc-preserved
loop-arc-preserved c =
    let m = c.args.map.now in
    let long : length c.arc.result.now ≡ length (arc_at m c.loop-arc.arc) =
    ap length (sym (get_or_from_slice_get m.arcs c.loop-arc.arc c.arc.result.now [] c.arc.ensures.value)) in
    let same : c.in_ok-vec.field-0.items ≡ replicate (length c.arc.result.now) 0 = search rules in
    let size : length c.in_ok-vec.field-0.items ≡ length (arc_at m c.loop-arc.arc) = ap length same
    ∙ length-replicate (length c.arc.result.now) 0 ∙ long in
    record {
      count = search rules;
      room = search rules;
      long = each-pushed (λ k ns. length ns ≡ length (arc_at m k)) c.loop-arc.ranks.items c.push_reserved.new.self.items c.in_ok-vec.field-0
          c.loop-arc.arc c.loop-arc.invariant.count c.push_reserved.ensures.items c.loop-arc.invariant.long size;
      none = each-pushed (λ k ns. (at : ℕ) → get_or ns at 0 ≡ 0) c.loop-arc.ranks.items c.push_reserved.new.self.items c.in_ok-vec.field-0
          c.loop-arc.arc c.loop-arc.invariant.count c.push_reserved.ensures.items c.loop-arc.invariant.none (λ at.
          ap (λ (ns : List ℕ). get_or ns at 0) same ∙ zeros (length c.arc.result.now) at);
    }
