-- The search finds the number exactly where the list has it.
use Rattle.std.proofs.lemmas.List.Sorted.{searched}
use Rattle.arc_map.proofs.Rising.{rising_order, found-contains}
use Rattle.arc_map.proofs.arc_list.ArcList.has.Goals as goal

pub returns : goal.returns
returns c =
    let arcs = c.self.inside.arcs.items in
    let found = searched c.deref.result.now c.args.arc c.binary_search.result c.binary_search.ensures.position
    (rw c.deref.ensures.value (rising_order arcs c.self.invariant.rising)) in
    rw (c.is_ok.ensures.value, ← c.self.view_is, ← c.deref.ensures.value)
    (found-contains c.deref.result.now c.args.arc c.binary_search.result found)
