-- The index and the table of chain ends keep step.
use Rattle.std.proofs.Common.{◌≡◌, ◌∙◌, length, sym, subst}
use Rattle.arc_map.specs.Work.{Work}
use Rattle.map_index.specs.IndexedMap.{items_in}
use Rattle.map_index.specs.MapIndex.{IsIndexAt}
use Rattle.map_index.proofs.indexed.IndexedMap.thin.Goals as goal

pub invariant_of-self : goal.invariant_of-self
invariant_of-self c = record {
  at_work = subst (λ w. IsIndexAt w c.thin.new.self) (sym c.thin-2.ensures.thinned) c.thin.ensures.index;
  count = subst (λ (w : Work). length c.thin.new.self.items.numbered ≡ items_in w) (sym c.thin-2.ensures.thinned) (c.thin.ensures.count
      ∙ c.self.invariant.count);
  chain_ends = c.thin-2.ensures.ends c.self.inside.ends c.self.invariant.chain_ends;
}
