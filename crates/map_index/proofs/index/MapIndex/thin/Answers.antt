-- The items of the vertices that go are dropped.
use Rattle.std.proofs.Common.{◌<◌, ℕ, List, length, get_or, sym, subst, arith}
use Rattle.std.proofs.lemmas.List.{get_or_read}
use Rattle.grid_exact.specs.Geometry.{Place}
use Rattle.arc_map.specs.Work.{thinned_work}
use Rattle.sweep_index.specs.declared.index.Item.{Item}
use Rattle.map_index.specs.MapIndex.{Placed, IsIndexAt}
use Rattle.map_index.specs.Drops.{AreDropped}
use Rattle.map_index.proofs.Stepping.{IsStep, index_after}
use Rattle.map_index.proofs.index.MapIndex.thin.Goals as goal

pub returns-clause-index : goal.returns-clause-index
returns-clause-index c =
    let w = c.args.work.now in
    let k = c.args.k in
    let kept = c.args.kept.now in
    let v : Placed = record { items = c.self.inside.index; firsts = c.self.inside.firsts.items } in
    let index : IsIndexAt w v = subst (IsIndexAt w) (sym c.self.view_is) c.requires.index in
    let step : IsStep w k kept = record { below = c.requires.chain; read = c.requires.read; keep = c.requires.kept } in
    let live = c.drop_others.new.index.live in
    let inside : k < length v.firsts = omega (arith, c.requires.chain, index.chains.count, index.numbers.firsts_count) in
    let first = get_or_read v.firsts k c.index-first.result.now inside c.index-first.ensures 0 in
    let from_first = subst (λ n. AreDropped kept n (length c.chain.result.now) v.items.live live) first c.drop_others.ensures.live in
    let drops = subst (λ (ps : List Place). AreDropped kept (get_or v.firsts k 0) (length ps) v.items.live live) c.chain.ensures.places
    from_first in
    let after = index_after w k kept v live index step c.drop_others.ensures.live_count drops in
    subst (λ (numbered : List (ℕ × Item)). IsIndexAt (thinned_work w k kept)
    (record { items = record { numbered = numbered; live = live }; firsts = v.firsts })) (sym c.drop_others.ensures.numbered) after
