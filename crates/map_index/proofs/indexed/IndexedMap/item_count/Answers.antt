-- The index has all items.
use Rattle.std.proofs.Common.{◌∙◌, ap}
use Rattle.map_index.specs.IndexedMap.{items_in}
use Rattle.map_index.proofs.indexed.IndexedMap.item_count.Goals as goal

pub returns : goal.returns
returns c = c.item_count.ensures ∙ c.self.invariant.count ∙ ap items_in c.self.view_is
