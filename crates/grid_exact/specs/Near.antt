-- How near a point is to a segment where the axes have weights, and the greatest whole number below a square root.
use Rattle.std.specs.Prelude.{ℤ, pos, ◌+ℤ◌, ◌-ℤ◌, ◌*ℤ◌, ◌≤ℤ◌}
use Rattle.grid_exact.specs.Geometry.{Place, square_of}

-- the place with x times wx and y times wy
abbrev pub weighted : ℤ → ℤ → Place → Place
weighted wx wy p = record { x = wx *ℤ p.x; y = wy *ℤ p.y }

-- p is within the distance e of the closed segment ab, where lengths across count wx-fold and lengths up
-- count wy-fold: some point of the segment, the fraction `numerator / denominator` of the way from a to b,
-- is at most e away
pub record IsNear (wx wy : ℤ) (a b p : Place) (e : ℤ) : Type 0 where
  pub denominator : ℤ
  pub numerator : ℤ
  pub whole : pos 1 ≤ℤ denominator
  pub from_start : pos 0 ≤ℤ numerator
  pub to_end : numerator ≤ℤ denominator
  pub near : (square_of (wx *ℤ (denominator *ℤ (p.x -ℤ a.x) -ℤ numerator *ℤ (b.x -ℤ a.x))) +ℤ square_of
      (wy *ℤ (denominator *ℤ (p.y -ℤ a.y) -ℤ numerator *ℤ (b.y -ℤ a.y)))) ≤ℤ (square_of denominator *ℤ square_of e)

-- t is the square root of n, rounded down
pub record IsGreatestRoot (n t : ℤ) : Type 0 where
  pub nonnegative : pos 0 ≤ℤ t
  pub square : square_of t ≤ℤ n
  pub greatest : (u : ℤ) → square_of u ≤ℤ n → u ≤ℤ t
