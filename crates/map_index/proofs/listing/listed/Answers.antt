-- The items of one chain more stand behind those before, and their first has its number.
use Rattle.std.proofs.Common.{◌≡◌, ◌∙◌, ◌<◌, ◌++◌, List, map, length, ap, arith, rules, length-append}
use Rattle.std.proofs.lemmas.List.{length-map}
use Rattle.std.proofs.lemmas.List.Elements.{All-more}
use Rattle.grid_exact.specs.Geometry.{Place}
use Rattle.arc_map.specs.Chains.{Chain, no_chain, chain_at}
use Rattle.sweep_index.specs.declared.index.Item.{Item}
use Rattle.sweep_index.specs.declared.index.Owner.TheVariants.{Chain as OfChain}
use Rattle.map_index.specs.Listing.{item_of, items_before}
use Rattle.map_index.proofs.Listed.{chain_items_more, first_more}
use Rattle.map_index.proofs.listing.listed.Goals as goal

pub loop-k-preserved : goal.loop-k-preserved
loop-k-preserved c =
    let points = c.args.work.now.read.points in
    let chains = c.args.work.now.chains in
    let k = c.loop-k.k in
    let below : k < length chains = search rules in
    let owner = OfChain k in
    let places = c.chain.result.now in
    let pushed = c.in_ok-push_vertices.ensures in
    record {
      items = pushed ∙ ap (λ (zs : List Item). zs ++ map (item_of owner) places) c.loop-k.invariant.items
          ∙ ap (λ (ps : List Place). items_before points chains k ++ map (item_of owner) ps) c.chain.ensures.places
          ∙ chain_items_more points chains k below;
      few =
          let count = ap length pushed in
          omega (
            arith,
            count,
            length-append c.loop-k.items.items (map (item_of owner) places),
            length-map places (item_of owner),
            c.chain.ensures.short,
            c.loop-k.invariant.few,
          );
      firsts =
          let count : length c.loop-k.firsts.items ≡ k = search rules in
          let so_far = ap length c.loop-k.invariant.items in
          first_more c.loop-k.firsts.items c.push_reserved.new.self.items c.len.result k (λ j. length (items_before points chains j))
          c.push_reserved.ensures.items count (omega (arith, so_far, c.len.ensures, c.loop-k.items.ok.0)) c.loop-k.invariant.firsts;
      edges =
          let chain = chain_at chains k in
          let several = c.chain.ensures.several in
          let places = ap length c.chain.ensures.places in
          let edge : 0 < length chain.rest = omega (arith, several, places, length-map chain.rest (λ v. v.place)) in
          All-more (λ (x : Chain). 0 < length x.rest) chains k no_chain below c.loop-k.invariant.edges edge;
      count = search rules;
      room = search rules;
    }
