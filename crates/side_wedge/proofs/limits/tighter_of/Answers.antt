-- A limit that has p on its hand is the tighter of the two.
use Rattle.grid_exact.proofs.Orders.{denied}
use Rattle.side_wedge.proofs.Tighter.{keeps_limit, takes_limit}
use Rattle.side_wedge.proofs.limits.tighter_of.Goals as goal

pub returns-then-is_on_hand : goal.returns-then-is_on_hand
returns-then-is_on_hand c = λ frame rising sq sp. keeps_limit frame rising c.args.hand c.args.start c.args.q c.args.p
    (c.is_on_hand.ensures.0 c.if-is_on_hand.true) sq sp

pub returns-else-is_on_hand : goal.returns-else-is_on_hand
returns-else-is_on_hand c = λ frame rising sq sp. takes_limit frame rising c.args.hand c.args.start c.args.q c.args.p (λ on.
    denied c.is_on_hand.result c.if-is_on_hand.false (c.is_on_hand.ensures.1 on)) sq sp
