-- Two edges that run in one direction, over the part of the direction that they share.
use Rattle.std.specs.Prelude.{◌≡◌, true, false, ℤ, pos, ◌-ℤ◌, ◌≤ℤ◌, ◌<ℤ◌}
use Rattle.grid_exact.specs.Geometry.{Place, area_of, turned}
use Rattle.grid_exact.specs.declared.frame.Frame.{Frame}
use Rattle.grid_exact.specs.declared.frame.Frame.TheVariants.{Plain, Turned}
use Rattle.grid_exact.specs.Crossing.{is_before}

-- a is b, or before it where x, then y is compared
pub record IsUpTo (a b : Place) : Type 0 where
  pub across : a.x ≤ℤ b.x
  pub level : a.x ≡ b.x → a.y ≤ℤ b.y

-- how far the edge cd is above the edge ab where the later of them starts, as an area
abbrev pub start_gap : Place → Place → Place → Place → ℤ
start_gap a b c d = elim (is_before a c) [ true ↦ area_of a b c | false ↦ pos 0 -ℤ area_of c d a ]

-- and where the earlier of them ends
abbrev pub end_gap : Place → Place → Place → Place → ℤ
end_gap a b c d = elim (is_before d b) [ true ↦ area_of a b d | false ↦ pos 0 -ℤ area_of c d b ]

-- both positive, or both negative
pub data SameSign (y z : ℤ) : Type 0 where
  BothAbove : pos 0 <ℤ y → pos 0 <ℤ z → SameSign y z
  BothBelow : y <ℤ pos 0 → z <ℤ pos 0 → SameSign y z

-- the place with the coordinate first that the frame compares first
abbrev pub placed_in : Frame → Place → Place
placed_in Plain a = a
placed_in Turned a = turned a
