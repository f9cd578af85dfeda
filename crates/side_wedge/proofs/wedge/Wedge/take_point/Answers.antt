-- The new limit stands for the old one and p; the other limit stays.
use Rattle.std.proofs.Common.{◌↔◌, subst}
use Rattle.chain_side.specs.declared.sides.Side.{Side}
use Rattle.lane_kernels.specs.declared.side.Hand.TheVariants.{Left, Right}
use Rattle.lane_kernels.specs.Hands.{IsOnSide}
use Rattle.side_wedge.specs.Lines.{IsSideOfLine}
use Rattle.side_wedge.proofs.Tighter.{for_some, past_by, true_along}
use Rattle.side_wedge.proofs.Sidelong.{side_of_hand}
use Rattle.side_wedge.proofs.wedge.Wedge.take_point.Goals as goal

pub invariant_of-self : goal.invariant_of-self
invariant_of-self c =
    let w = c.args.self.now in
    let new = c.tighter.ensures w.direction.frame w.direction.rising
    (past_by w.direction.frame w.direction.rising w.origin w.left w.left_past) c.requires.past in
    record {
      left_past = for_some _ c.tighter.result (true_along w.direction.frame w.direction.rising w.origin c.tighter.result new.past);
      right_past = w.right_past;
    }

pub invariant_of-self-in-Right : goal.invariant_of-self-in-Right
invariant_of-self-in-Right c =
    let w = c.args.self.now in
    let new = c.tighter-in-Right.ensures w.direction.frame w.direction.rising
    (past_by w.direction.frame w.direction.rising w.origin w.right w.right_past) c.requires.past in
    record {
      left_past = w.left_past;
      right_past = for_some _ c.tighter-in-Right.result
          (true_along w.direction.frame w.direction.rising w.origin c.tighter-in-Right.result new.past);
    }

pub returns-in-Left-clause-lets : goal.returns-in-Left-clause-lets
returns-in-Left-clause-lets c v past =
    let w = c.args.self.now in
    let new = c.tighter.ensures w.direction.frame w.direction.rising
    (past_by w.direction.frame w.direction.rising w.origin w.left w.left_past) c.requires.past in
    let side = subst (λ (s : Side). IsOnSide Left w.origin v c.args.p
    ↔ IsSideOfLine w.direction.frame w.direction.rising w.origin v c.args.p s) c.in-Left.ensures
    (side_of_hand w.direction.frame w.direction.rising Left w.origin v c.args.p) in (
      λ h. let both = (new.same v past).0 h.left in (record { left = both.0; right = h.right }, side.0 both.1),
      λ both. record { left = (new.same v past).1 (both.0.left, side.1 both.1); right = both.0.right },
    )

pub returns-in-Right-clause-lets : goal.returns-in-Right-clause-lets
returns-in-Right-clause-lets c v past =
    let w = c.args.self.now in
    let new = c.tighter-in-Right.ensures w.direction.frame w.direction.rising
    (past_by w.direction.frame w.direction.rising w.origin w.right w.right_past) c.requires.past in
    let side = subst (λ (s : Side). IsOnSide Right w.origin v c.args.p
    ↔ IsSideOfLine w.direction.frame w.direction.rising w.origin v c.args.p s) c.in-Right.ensures
    (side_of_hand w.direction.frame w.direction.rising Right w.origin v c.args.p) in (
      λ h. let both = (new.same v past).0 h.right in (record { left = h.left; right = both.0 }, side.0 both.1),
      λ both. record { left = both.0.left; right = (new.same v past).1 (both.0.right, side.1 both.1) },
    )
