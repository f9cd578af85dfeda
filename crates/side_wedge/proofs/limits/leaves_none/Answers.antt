-- Both limits are past the start, and the left one is not on the left of the way to the right one.
use Rattle.std.proofs.Common.{Bool, true, false, IsTrue, Option, subst}
use Rattle.std.specs.Prelude.{not}
use Rattle.grid_exact.specs.Geometry.{Place}
use Rattle.lane_kernels.specs.declared.side.Hand.TheVariants.{Left, Right}
use Rattle.side_wedge.specs.Limits.{IsWithinLimit}
use Rattle.side_wedge.proofs.Tighter.{crossed_limits}
use Rattle.side_wedge.proofs.limits.leaves_none.Goals as goal

not_both : (t : Bool) → IsTrue (not t) → IsTrue t → ⊥
not_both true h k = cc
not_both false h k = cc

pub returns-in-Some-Some : goal.returns-in-Some-Some
returns-in-Some-Some c t frame rising first second v sv left right =
    let start = c.args.start in
    let p = c.in-Some-Some.p in
    let q = c.in-Some-Some.q in
    crossed_limits frame rising start p q v (λ on. not_both c.is_on_hand.result t (c.is_on_hand.ensures.1 on)) (first p c.in-Some-Some.is-0)
    (second q c.in-Some-Some.is-1) sv
    (subst (λ (o : Option Place). IsWithinLimit Left c.args.start o v) c.in-Some-Some.is-0 left)
    (subst (λ (o : Option Place). IsWithinLimit Right c.args.start o v) c.in-Some-Some.is-1 right)
