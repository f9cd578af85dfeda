-- The corridor stands for no vertex.
use Rattle.std.proofs.Common.{ap, ◌∙◌}
use Rattle.grid_exact.specs.Geometry.{Place}
use Rattle.shortcut_graph.specs.Corridor.{seen_along}
use Rattle.shortcut_graph.proofs.Corridors.{no_vertex}
use Rattle.shortcut_graph.proofs.corridor.Corridor.start.Goals as goal

pub returns : goal.returns
returns c =
    let direction = c.args.direction in
    no_vertex c.wide.result c.args.ruler.now.xs.now c.args.ruler.now.ys.now c.args.ruler.now.bound c.args.start direction c.look.result
    c.wide.ensures.direction c.wide.ensures.origin
    (c.look.ensures ∙ ap (λ (p : Place). seen_along direction p) c.point_at-from.ensures)
    c.wide.ensures.past
