-- What is at an end of the chain is no stray.
use Rattle.side_wedge.proofs.Gathering.{at_end_over}
use Rattle.side_wedge.proofs.gather.near_stray.Goals as goal

pub returns-then-is_at_end-clause-all : goal.returns-then-is_at_end-clause-all
returns-then-is_at_end-clause-all c s hand runs is near =
    let r = c.args.subject.now in
    absurd (at_end_over r.direction.frame r.direction.rising r.chain.now c.args.item.at s runs is.over
    (c.is_at_end.ensures c.if-is_at_end.true))
