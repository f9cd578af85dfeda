-- The corner is at these two numbers.
use Rattle.std.proofs.Common.{◌↔◌, ℤ, pos, ◌+ℤ◌, ◌≤ℤ◌, sym, subst}
use Rattle.chain_reach.proofs.Numbered.{point_made}
use Rattle.chain_reach.proofs.extent.raised.Goals as goal

pub returns-clause-across : goal.returns-clause-across
returns-clause-across c z =
    let made = point_made c.new.result c.unwrap.result c.right_of.result c.above.result c.unwrap.ensures c.new.ensures.value
    c.right_of.ensures.on_grid c.above.ensures.on_grid in
    subst (λ (u : ℤ). (z ≤ℤ u) ↔ ((z ≤ℤ c.args.ceiling.x) × (z ≤ℤ (c.args.place.x +ℤ pos c.args.steps.across)))) (sym made.0)
    (c.right_of.ensures.value z)

pub returns-clause-up : goal.returns-clause-up
returns-clause-up c z =
    let made = point_made c.new.result c.unwrap.result c.right_of.result c.above.result c.unwrap.ensures c.new.ensures.value
    c.right_of.ensures.on_grid c.above.ensures.on_grid in
    subst (λ (u : ℤ). (z ≤ℤ u) ↔ ((z ≤ℤ c.args.ceiling.y) × (z ≤ℤ (c.args.place.y +ℤ pos c.args.steps.up)))) (sym made.1)
    (c.above.ensures.value z)
