use Rattle.arrangement_check.proofs.meeting.clashes_below.Goals as goal

pub returns-then-is_less : goal.returns-then-is_less
returns-then-is_less c = (
  λ clash. (c.is_less.ensures.0 c.if-is_less.true, c.edges_clash.ensures.0 clash),
  λ both.
      c.edges_clash.ensures.1 both.1,
)
