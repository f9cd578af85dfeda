-- The steepest corner sets the limit of its square.
use Rattle.std.proofs.Common.{◌↔◌, ◌+ℤ◌, ◌-ℤ◌, subst, arith}
use Rattle.grid_exact.proofs.WholeLaws.{fits}
use Rattle.error_cone.specs.Ways.{IsUnder, IsUnderSquare}
use Rattle.error_cone.specs.declared.ways.Way.{Way}
use Rattle.error_cone.proofs.Slopes.{same_way}
use Rattle.error_cone.proofs.Squares.{near_corner, far_corner}
use Rattle.error_cone.proofs.ways.steepest.Goals as goal

pub returns-then-up-ge0-clause-limit : goal.returns-then-up-ge0-clause-limit
returns-then-up-ge0-clause-limit c = λ d low.
    subst (λ (w : Way). IsUnder w d ↔ IsUnderSquare c.args.bound c.args.way d)
    (same_way (record { across = c.args.way.across -ℤ c.args.bound; up = c.args.way.up +ℤ c.args.bound }) _ (omega (arith, fits))
    (omega (arith, fits)))
    (near_corner c.args.bound c.args.way d (omega (arith, fits)) c.requires.past (omega (arith, fits)) low)

pub returns-else-up-ge0-clause-limit : goal.returns-else-up-ge0-clause-limit
returns-else-up-ge0-clause-limit c = λ d low.
    subst (λ (w : Way). IsUnder w d ↔ IsUnderSquare c.args.bound c.args.way d)
    (same_way (record { across = c.args.way.across +ℤ c.args.bound; up = c.args.way.up +ℤ c.args.bound }) _ (omega (arith, fits))
    (omega (arith, fits)))
    (far_corner c.args.bound c.args.way d (omega (arith, fits)) c.requires.past (omega (arith, fits)) low)
