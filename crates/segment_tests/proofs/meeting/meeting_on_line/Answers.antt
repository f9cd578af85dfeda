-- Segments that are read backwards meet as before.
use Rattle.segment_tests.proofs.Lines.{flat_turned, meets_first_turned, meets_second_turned}
use Rattle.segment_tests.proofs.meeting.meeting_on_line.Goals as goal

pub meeting_in_order-requires-then-precedes-3-clause-c_on_line : goal.meeting_in_order-requires-then-precedes-3-clause-c_on_line
meeting_in_order-requires-then-precedes-3-clause-c_on_line c = flat_turned c.args.a c.args.b c.args.c c.requires.c_on_line

pub meeting_in_order-requires-then-precedes-3-clause-d_on_line : goal.meeting_in_order-requires-then-precedes-3-clause-d_on_line
meeting_in_order-requires-then-precedes-3-clause-d_on_line c = flat_turned c.args.a c.args.b c.args.d c.requires.d_on_line

pub meeting_in_order-requires-else-precedes-3-clause-c_on_line : goal.meeting_in_order-requires-else-precedes-3-clause-c_on_line
meeting_in_order-requires-else-precedes-3-clause-c_on_line c = flat_turned c.args.a c.args.b c.args.d c.requires.d_on_line

pub meeting_in_order-requires-else-precedes-3-clause-d_on_line : goal.meeting_in_order-requires-else-precedes-3-clause-d_on_line
meeting_in_order-requires-else-precedes-3-clause-d_on_line c = flat_turned c.args.a c.args.b c.args.c c.requires.c_on_line

pub returns-else-precedes-2 : goal.returns-else-precedes-2
returns-else-precedes-2 c = meets_second_turned c.meeting_in_order-else-precedes-2.result c.args.a c.args.b c.args.d c.args.c
    c.meeting_in_order-else-precedes-2.ensures

pub returns-then-precedes-3 : goal.returns-then-precedes-3
returns-then-precedes-3 c = meets_first_turned c.meeting_in_order-then-precedes-3.result c.args.b c.args.a c.args.c c.args.d
    c.meeting_in_order-then-precedes-3.ensures

pub returns-else-precedes-3 : goal.returns-else-precedes-3
returns-else-precedes-3 c =
    let r = c.meeting_in_order-else-precedes-3.result in
    meets_first_turned r c.args.b c.args.a c.args.c c.args.d (meets_second_turned r c.args.b c.args.a c.args.d c.args.c
    c.meeting_in_order-else-precedes-3.ensures)
