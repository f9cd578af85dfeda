-- Edges that clash have boxes that meet, and the box of an edge holds each point on it.
use Rattle.std.proofs.Common.{inl, inr, ℕ, ℤ, ◌≤ℤ◌, ◌<ℤ◌, arith, get_or}
use Rattle.grid_exact.specs.Geometry.{Place, IsBetween, CommonPoint}
use Rattle.grid_exact.specs.Geometry.IsBetween.{Rising, Falling}
use Rattle.grid_exact.proofs.WholeLaws.{sums}
use Rattle.grid_exact.proofs.Signs.{at_most_or_above}
use Rattle.grid_exact.proofs.Segments.{on_segment_by_signs}
use Rattle.segment_tests.specs.Meeting.{AreRangesApart}
use Rattle.segment_tests.proofs.Ranges.{boxes_apart}
use Rattle.arc_map.specs.Map.{Map}
use Rattle.arc_map.specs.Arranged.{EdgesClash, PointIsOn, edge_end, edge_start, nowhere}
use Rattle.arc_map.specs.declared.refs.EdgeRef.{EdgeRef}
use Rattle.sweep_index.specs.Boxes.{BoxHolds, BoxesMeet, RangesMeet}

-- ---- ranges that are not apart have a number in common

-- where v stands beside the range from a to b
data Stands (a b v : ℤ) : Type 0 where
  Within : IsBetween a b v → Stands a b v
  Below : v <ℤ a → v <ℤ b → Stands a b v
  Above : a <ℤ v → b <ℤ v → Stands a b v

stands_rising : (a b v : ℤ) → a ≤ℤ b → Stands a b v
stands_rising a b v rising = elim (at_most_or_above a v) [
  | inl from ↦ elim (at_most_or_above v b) [ inl to ↦ Within (Rising from to) | inr past ↦ Above (omega (arith, sums)) past ]
  | inr before ↦ Below before (omega (arith, sums))
]

stands_falling : (a b v : ℤ) → b ≤ℤ a → Stands a b v
stands_falling a b v falling = elim (at_most_or_above b v) [
  | inl from ↦ elim (at_most_or_above v a) [ inl to ↦ Within (Falling from to) | inr past ↦ Above past (omega (arith, sums)) ]
  | inr before ↦ Below (omega (arith, sums)) before
]

stands : (a b v : ℤ) → Stands a b v
stands a b v = elim (at_most_or_above a b) [ inl h ↦ stands_rising a b v h | inr h ↦ stands_falling a b v (omega (arith, sums)) ]

starts_between : (a b : ℤ) → IsBetween a b a
starts_between a b = elim (at_most_or_above a b) [
  | inl h ↦ Rising (omega (arith, sums)) h
  | inr h ↦ Falling (omega (arith, sums)) (omega (arith, sums))
]

ends_between : (a b : ℤ) → IsBetween a b b
ends_between a b = elim (at_most_or_above a b) [
  | inl h ↦ Rising h (omega (arith, sums))
  | inr h ↦ Falling (omega (arith, sums)) (omega (arith, sums))
]

meet_by : (a b c d : ℤ) → ¬ (AreRangesApart a b c d) → Stands a b c → Stands a b d → RangesMeet a b c d
meet_by a b c d near (Within h) other = record { at = c; first = h; second = starts_between c d }
meet_by a b c d near (Below ca cb) (Within h) = record { at = d; first = h; second = ends_between c d }
meet_by a b c d near (Below ca cb) (Below da db) =
    absurd (near (inr (record { a_below_c = ca; a_below_d = cb; b_below_c = da; b_below_d = db })))
meet_by a b c d near (Below ca cb) (Above ad bd) = record {
  at = a;
  first = starts_between a b;
  second =
      Rising (omega (arith, sums)) (omega (arith, sums));
}
meet_by a b c d near (Above ac bc) (Within h) = record { at = d; first = h; second = ends_between c d }
meet_by a b c d near (Above ac bc) (Below da db) = record {
  at = a;
  first = starts_between a b;
  second =
      Falling (omega (arith, sums)) (omega (arith, sums));
}
meet_by a b c d near (Above ac bc) (Above ad bd) =
    absurd (near (inl (record { a_below_c = ac; a_below_d = ad; b_below_c = bc; b_below_d = bd })))

ranges_meet : (a b c d : ℤ) → ¬ (AreRangesApart a b c d) → RangesMeet a b c d
ranges_meet a b c d near = meet_by a b c d near (stands a b c) (stands a b d)

-- ---- edges and points

common_across : (a b c d : Place) → CommonPoint a b c d → RangesMeet a.x b.x c.x d.x
common_across a b c d common = ranges_meet a.x b.x c.x d.x (λ apart. boxes_apart a b c d (inr apart) common)

common_up : (a b c d : Place) → CommonPoint a b c d → RangesMeet a.y b.y c.y d.y
common_up a b c d common = ranges_meet a.y b.y c.y d.y (λ apart. boxes_apart a b c d (inl apart) common)

pub boxes_meet : (m : Map) (e f : EdgeRef) → EdgesClash m e f → BoxesMeet m e f
boxes_meet m e f clash = record {
  across = common_across (edge_start m e) (edge_end m e) (edge_start m f) (edge_end m f) clash.common;
  up = common_up (edge_start m e) (edge_end m e) (edge_start m f) (edge_end m f) clash.common;
}

pub box_holds : (m : Map) (k : ℕ) (e : EdgeRef) → PointIsOn m k e → BoxHolds m e (get_or m.points k nowhere)
box_holds m k e on =
    let signs = (on_segment_by_signs (edge_start m e) (edge_end m e) (get_or m.points k nowhere)).1 on in
    record { across = signs.1.0; up = signs.1.1 }
