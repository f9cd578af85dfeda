-- The ways that are left keep to the corridor so far and to that of the vertex, or this is near the origin.
use Rattle.std.proofs.Common.{◌≡◌, ap, subst, ◌∙◌}
use Rattle.grid_exact.specs.Geometry.{Place, IsWithin}
use Rattle.lane_kernels.specs.Places.{place_at}
use Rattle.shortcut_graph.specs.Corridor.{seen_along}
use Rattle.shortcut_graph.proofs.Corridors.{one_more, one_beside}
use Rattle.shortcut_graph.proofs.corridor.Corridor.take.Goals as goal

pub returns : goal.returns
returns c j corridor =
    let old = c.args.self.now in
    let xs = c.args.ruler.now.xs.now in
    let ys = c.args.ruler.now.ys.now in
    let seen : c.look-place.result ≡ seen_along old.direction (place_at xs ys c.args.vertex) = c.look-place.ensures
    ∙ ap (λ (p : Place). seen_along old.direction p) c.point_at.ensures in
    one_more old c.narrowed.result xs ys c.args.ruler.now.bound c.args.vertex j c.narrowed.ensures.direction c.narrowed.ensures.origin (λ t.
    c.narrowed.ensures.past)
    (λ v keeps.
    let both = c.narrowed.ensures.near v keeps in
    (both.0, subst (λ (p : Place). IsWithin old.origin v p c.args.ruler.now.bound) seen (c.past-more.ensures.near v both.1))) corridor

pub returns-else-not-within : goal.returns-else-not-within
returns-else-not-within c j corridor =
    let old = c.args.self.now in
    let xs = c.args.ruler.now.xs.now in
    let ys = c.args.ruler.now.ys.now in
    let seen : c.look-place.result ≡ seen_along old.direction (place_at xs ys c.args.vertex) = c.look-place.ensures
    ∙ ap (λ (p : Place). seen_along old.direction p) c.point_at.ensures in
    let near : IsWithin old.origin old.origin c.look-place.result c.args.ruler.now.bound = c.within.ensures.0 c.if-not-within.false in
    one_beside old xs ys c.args.ruler.now.bound c.args.vertex j
    (subst (λ (p : Place). IsWithin old.origin old.origin p c.args.ruler.now.bound) seen near) corridor
