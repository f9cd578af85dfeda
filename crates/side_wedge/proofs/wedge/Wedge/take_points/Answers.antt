-- The new limit stands for the old one and the points; the other limit stays.
use Rattle.side_wedge.proofs.Tighter.{past_by, by_past}
use Rattle.side_wedge.proofs.wedge.Wedge.take_points.Goals as goal

pub invariant_of-self : goal.invariant_of-self
invariant_of-self c =
    let w = c.args.self.now in
    let new = c.tightest-self.ensures w.direction.frame w.direction.rising
    (past_by w.direction.frame w.direction.rising w.origin w.left w.left_past) c.requires.past in
    record { left_past = by_past w.direction.frame w.direction.rising w.origin c.tightest-self.result new.past; right_past = w.right_past }

pub invariant_of-self-in-Right : goal.invariant_of-self-in-Right
invariant_of-self-in-Right c =
    let w = c.args.self.now in
    let new = c.tightest-self-in-Right.ensures w.direction.frame w.direction.rising
    (past_by w.direction.frame w.direction.rising w.origin w.right w.right_past) c.requires.past in
    record {
      left_past = w.left_past;
      right_past = by_past w.direction.frame w.direction.rising w.origin c.tightest-self-in-Right.result
          new.past;
    }

pub returns-in-Left-clause-lets : goal.returns-in-Left-clause-lets
returns-in-Left-clause-lets c v past =
    let w = c.args.self.now in
    let new = c.tightest-self.ensures w.direction.frame w.direction.rising
    (past_by w.direction.frame w.direction.rising w.origin w.left w.left_past) c.requires.past in
    rw c.in-Left.is (
      λ h. let both = (new.same v past).0 h.left in (record { left = both.0; right = h.right }, both.1),
      λ both. record { left = (new.same v past).1 (both.0.left, both.1); right = both.0.right },
    )

pub returns-in-Right-clause-lets : goal.returns-in-Right-clause-lets
returns-in-Right-clause-lets c v past =
    let w = c.args.self.now in
    let new = c.tightest-self-in-Right.ensures w.direction.frame w.direction.rising
    (past_by w.direction.frame w.direction.rising w.origin w.right w.right_past) c.requires.past in
    rw c.in-Right.is (
      λ h. let both = (new.same v past).0 h.right in (record { left = h.left; right = both.0 }, both.1),
      λ both. record { left = both.0.left; right = (new.same v past).1 (both.0.right, both.1) },
    )
