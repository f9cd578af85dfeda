-- A way between the limits of the vertex is within the bound of it.
use Rattle.std.proofs.Common.{arith}
use Rattle.grid_exact.proofs.WholeLaws.{fits}
use Rattle.shortcut_graph.proofs.Corridors.{within_limits}
use Rattle.shortcut_graph.proofs.corridor.Corridor.past.Goals as goal

pub returns-clause-near : goal.returns-clause-near
returns-clause-near c v keeps =
    let t = keeps.passable in
    let far = keeps.far in
    let reach = c.x.ensures.value in let from = c.x-2.ensures.value in let to = c.x-3.ensures.value in
    within_limits c.args.origin v c.args.place c.raised.result c.lowered.result c.args.bound c.raised.ensures.across c.raised.ensures.up
    c.lowered.ensures.across c.lowered.ensures.up (omega (arith, fits)) (omega (arith, fits)) keeps.below keeps.above
