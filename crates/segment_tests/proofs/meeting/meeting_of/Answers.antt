-- Segments in boxes that are apart have no common point.
use Rattle.segment_tests.proofs.Ranges.{boxes_apart}
use Rattle.segment_tests.proofs.meeting.meeting_of.Goals as goal

pub returns-then-are_boxes_apart : goal.returns-then-are_boxes_apart
returns-then-are_boxes_apart c = boxes_apart c.args.a c.args.b c.args.c c.args.d (c.are_boxes_apart.ensures.0 c.if-are_boxes_apart.true)
