-- The coordinates are those of the chain, with the weights 1 and 1.
use Rattle.shortcut_graph.proofs.Coordinates.{weighed_by_one}
use Rattle.worked_runs.proofs.graph.is_allowed.Goals as goal

pub lay-requires-clause-weighed : goal.lay-requires-clause-weighed
lay-requires-clause-weighed c =
    rw (c.in-Some.ensures.value, c.deref.ensures.value, c.deref-2.ensures.value, ← c.chain-places.ensures.places)
    (weighed_by_one c.chain-places.result.now c.in_ok-xs.xs.items c.in_ok-ys.ys.items c.in_ok-xs.ensures c.in_ok-ys.ensures)
