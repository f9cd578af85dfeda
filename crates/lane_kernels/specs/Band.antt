-- Places beside a segment, by products of whole numbers.
use Rattle.std.specs.Prelude.{ℤ, pos, neg_ℤ, ◌≤ℤ◌, ◌<ℤ◌}
use Rattle.grid_exact.specs.Geometry.{Place, area_of, length2_of, dot_of}

-- p is strictly beside the segment ab, neither behind a nor past b, and its area with ab is at most `reach` in size
pub record IsInBand (a b : Place) (reach : ℤ) (p : Place) : Type 0 where
  pub past_start : pos 0 <ℤ dot_of a b p
  pub before_end : dot_of a b p <ℤ length2_of a b
  pub not_right : neg_ℤ reach ≤ℤ area_of a b p
  pub not_left : area_of a b p ≤ℤ reach
