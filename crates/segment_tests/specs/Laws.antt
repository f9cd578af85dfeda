-- The laws of two segments, as facts about all places.
use Rattle.std.specs.Prelude.{◌↔◌, ◌⊎◌}
use Rattle.grid_exact.specs.Geometry.{Place, CommonPoint}
use Rattle.grid_exact.specs.Spans.{IsUpTo, start_gap, end_gap, SameSign, placed_in}
use Rattle.grid_exact.specs.declared.frame.Frame.{Frame}
use Rattle.segment_tests.specs.Meeting.{IsCrossing, IsTouching}

-- two segments have a common point exactly where they cross by the signs of four areas, or an end of
-- one lies on the other
abbrev pub SegmentsMeetBySigns : Type 0
SegmentsMeetBySigns = (a b c d : Place) → CommonPoint a b c d ↔ (IsCrossing a b c d ⊎ IsTouching a b c d)

-- in the order of the frame, ab and cd each run from the first end to the second, and their spans meet
pub record SpansMeet (frame : Frame) (a b c d : Place) : Type 0 where
  pub first : IsUpTo (placed_in frame a) (placed_in frame b)
  pub second : IsUpTo (placed_in frame c) (placed_in frame d)
  pub second_starts_in_time : IsUpTo (placed_in frame c) (placed_in frame b)
  pub first_starts_in_time : IsUpTo (placed_in frame a) (placed_in frame d)

-- of the edges ab and cd, the same one is strictly above the other at both ends of the span that they share
abbrev pub AreOrdered : Frame → Place → Place → Place → Place → Type 0
AreOrdered frame a b c d = SameSign (start_gap (placed_in frame a) (placed_in frame b) (placed_in frame c) (placed_in frame d))
    (end_gap (placed_in frame a) (placed_in frame b) (placed_in frame c) (placed_in frame d))

-- two edges whose spans meet, and that have no common point, are ordered
abbrev pub ApartEdgesAreOrdered : Type 0
ApartEdgesAreOrdered = (frame : Frame) (a b c d : Place) → SpansMeet frame a b c d → ¬ (CommonPoint a b c d) → AreOrdered frame a b c d

-- and two edges that are ordered have no common point
abbrev pub OrderedEdgesAreApart : Type 0
OrderedEdgesAreApart = (frame : Frame) (a b c d : Place) → AreOrdered frame a b c d → ¬ (CommonPoint a b c d)
