-- What the index finds are the items of the map there.
use Rattle.std.proofs.Common.{subst}
use Rattle.arc_map.specs.Work.{Work}
use Rattle.sweep_index.specs.Walk.{items_left}
use Rattle.map_index.specs.IndexedMap.{AreItemsIn}
use Rattle.map_index.proofs.InBox.{items_in_box}
use Rattle.map_index.proofs.indexed.IndexedMap.in_box.Goals as goal

pub returns : goal.returns
returns c =
    subst (λ (w : Work). AreItemsIn w c.args.low c.args.high (items_left c.in_box.result)) c.self.view_is
    (items_in_box c.self.inside.work c.self.inside.index c.args.low c.args.high (items_left c.in_box.result) c.self.invariant.at_work
    c.self.invariant.count c.in_box.ensures)
