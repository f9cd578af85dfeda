-- What the order of the ends says of common points.
use Rattle.std.proofs.Common.{sym}
use Rattle.segment_tests.proofs.Lines.{apart_past, apart_ahead, point_past, point_ahead, inside_in_order}
use Rattle.segment_tests.proofs.meeting.meeting_in_order.Goals as goal

pub returns-in-Less-order : goal.returns-in-Less-order
returns-in-Less-order c = inside_in_order c.args.a c.args.b c.args.c c.args.d c.requires.first c.requires.second
    (c.order.ensures.less.0 c.in-Less.is) (c.order-in-Less.ensures.less.0 c.in-Less-order.is) c.requires.c_on_line c.requires.d_on_line

pub returns-in-Equal-order : goal.returns-in-Equal-order
returns-in-Equal-order c = point_ahead c.args.a c.args.b c.args.c c.args.d c.requires.first c.requires.second
    (sym (c.order-in-Less.ensures.equal.0 c.in-Equal-order.is))

pub returns-in-Greater-order : goal.returns-in-Greater-order
returns-in-Greater-order c = apart_ahead c.args.a c.args.b c.args.c c.args.d c.requires.first c.requires.second
    (c.order-in-Less.ensures.greater.0 c.in-Greater-order.is)

pub returns-in-Equal : goal.returns-in-Equal
returns-in-Equal c = point_past c.args.a c.args.b c.args.c c.args.d c.requires.first c.requires.second
    (sym (c.order.ensures.equal.0 c.in-Equal.is))

pub returns-in-Greater : goal.returns-in-Greater
returns-in-Greater c = apart_past c.args.a c.args.b c.args.c c.args.d c.requires.first c.requires.second
    (c.order.ensures.greater.0 c.in-Greater.is)
