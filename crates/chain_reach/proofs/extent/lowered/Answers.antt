-- The corner is at these two numbers.
use Rattle.std.proofs.Common.{◌↔◌, ℤ, pos, ◌+ℤ◌, ◌≤ℤ◌, sym, subst}
use Rattle.chain_reach.proofs.Numbered.{point_made}
use Rattle.chain_reach.proofs.extent.lowered.Goals as goal

pub returns-clause-across : goal.returns-clause-across
returns-clause-across c z =
    let made = point_made c.new.result c.unwrap.result c.left_of.result c.below.result c.unwrap.ensures c.new.ensures.value
    c.left_of.ensures.on_grid c.below.ensures.on_grid in
    subst (λ (u : ℤ). (u ≤ℤ z) ↔ ((c.args.floor.x ≤ℤ z) × (c.args.place.x ≤ℤ (z +ℤ pos c.args.steps.across)))) (sym made.0)
    (c.left_of.ensures.value z)

pub returns-clause-up : goal.returns-clause-up
returns-clause-up c z =
    let made = point_made c.new.result c.unwrap.result c.left_of.result c.below.result c.unwrap.ensures c.new.ensures.value
    c.left_of.ensures.on_grid c.below.ensures.on_grid in
    subst (λ (u : ℤ). (u ≤ℤ z) ↔ ((c.args.floor.y ≤ℤ z) × (c.args.place.y ≤ℤ (z +ℤ pos c.args.steps.up)))) (sym made.1)
    (c.below.ensures.value z)
