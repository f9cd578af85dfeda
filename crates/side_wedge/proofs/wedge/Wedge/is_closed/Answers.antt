-- The limits are past the origin, so nothing past it is let where they are crossed.
use Rattle.side_wedge.proofs.Tighter.{past_by}
use Rattle.side_wedge.proofs.wedge.Wedge.is_closed.Goals as goal

pub returns : goal.returns
returns c t v past lets =
    let w = c.args.self.now in
    c.leaves_none.ensures t w.direction.frame w.direction.rising (past_by w.direction.frame w.direction.rising w.origin w.left w.left_past)
    (past_by w.direction.frame w.direction.rising w.origin w.right w.right_past) v past lets.left lets.right
