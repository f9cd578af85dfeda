-- A place is in the grown box where no side is against it.
use Rattle.std.proofs.lemmas.Bool.{iff_false}
use Rattle.chain_reach.proofs.Numbered.{says_no}
use Rattle.chain_reach.proofs.steps.is_near.Goals as goal

pub returns-then-not-is_past_left : goal.returns-then-not-is_past_left
returns-then-not-is_past_left c = says_no (λ h. iff_false c.is_past_left.ensures c.if-not-is_past_left.true h.left)

pub returns-then-not-is_before_right : goal.returns-then-not-is_before_right
returns-then-not-is_before_right c = says_no (λ h. iff_false c.is_before_right.ensures c.if-not-is_before_right.true h.right)

pub returns-then-not-is_past_bottom : goal.returns-then-not-is_past_bottom
returns-then-not-is_past_bottom c = says_no (λ h. iff_false c.is_past_bottom.ensures c.if-not-is_past_bottom.true h.bottom)

pub returns : goal.returns
returns c = (
  λ t. record {
    left = c.is_past_left.ensures.0 c.if-not-is_past_left.false;
    right = c.is_before_right.ensures.0 c.if-not-is_before_right.false;
    bottom = c.is_past_bottom.ensures.0 c.if-not-is_past_bottom.false;
    top = c.is_before_top.ensures.0 t;
  },
  λ h. c.is_before_top.ensures.1 h.top,
)
