-- The way back keeps to the corridor.
use Rattle.std.proofs.Common.{◌≡◌, ◌∙◌, ℕ, refl, sym, subst}
use Rattle.grid_exact.specs.Geometry.{Place}
use Rattle.shortcut_graph.specs.Corridor.{IsCorridor, KeepsTo, seen_along}
use Rattle.shortcut_graph.proofs.Corridors.{near_back}
use Rattle.shortcut_graph.proofs.hints.Hints.lets.Goals as goal

pub returns-in-None-clause-near : goal.returns-in-None-clause-near
returns-in-None-clause-near c t =
    let r = c.args.ruler.now in
    let h = c.take_to.new.self in
    let at : h.anchor ≡ c.args.end = c.take_to.ensures.anchor ∙ sym c.if-end-self.false in
    let stands = subst (λ (n : ℕ). IsCorridor h.corridor r.xs.now r.ys.now r.bound h.first n) at c.take_to.ensures.hints.stands in
    let keeps = subst (λ (p : Place). KeepsTo h.corridor (seen_along h.corridor.direction p)) c.point_at.ensures (c.in-None.ensures refl) in
    near_back h.corridor r.xs.now r.ys.now r.bound c.args.start h.first c.args.end c.take_to.ensures.taken stands keeps
