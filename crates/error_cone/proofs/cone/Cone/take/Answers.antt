-- Each limit stands for the old one and a corner of the square.
use Rattle.std.proofs.Common.{◌↔◌, pos, ◌≤ℤ◌, subst, arith}
use Rattle.grid_exact.proofs.WholeLaws.{fits}
use Rattle.error_cone.specs.Ways.{mirrored, IsUnder, IsUnderSquare}
use Rattle.error_cone.specs.declared.ways.Way.{Way}
use Rattle.error_cone.proofs.Cones.{narrowed, taken, lets_taken, passes_near}
use Rattle.error_cone.proofs.cone.Cone.take.Goals as goal

pub returns-then-way-value-clause-lets : goal.returns-then-way-value-clause-lets
returns-then-way-value-clause-lets c = λ v past.
    let w = c.args.self.now in
    let way = c.way_between-way.result in
    let up = narrowed w.bound way w.above c.steepest.result c.flatter-self.result c.flatter-self.ensures.limit c.steepest.ensures.limit in
    let down = narrowed w.bound (mirrored way) w.below c.steepest-then-way-value.result c.flatter-self-then-way-value.result
    c.flatter-self-then-way-value.ensures.limit (subst (λ (x : Way). (d : Way) → pos 0 ≤ℤ d.across
    → IsUnder c.steepest-then-way-value.result d ↔ IsUnderSquare w.bound x d) c.mirror.ensures c.steepest-then-way-value.ensures.limit)
    in
    let both = lets_taken w c.args.p v c.flatter-self.result c.flatter-self-then-way-value.result
    (taken w c.args.p way c.flatter-self.result c.flatter-self-then-way-value.result c.way_between-way.ensures.way (omega (arith, fits))
    up down) past in (
      λ h. both.0 (record { above_lets = h.above; below_lets = h.below }),
      λ h. let lim = both.1 h in
          record { above = lim.above_lets; below = lim.below_lets },
    )

pub returns-then-way-value-clause-near : goal.returns-then-way-value-clause-near
returns-then-way-value-clause-near c = λ v past near lets. (returns-then-way-value-clause-lets c v past).1
    (lets, passes_near c.args.self.now c.args.p v (omega (arith, fits)) near)
