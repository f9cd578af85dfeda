-- The two sides of the way from one place to another.
use Rattle.std.specs.Prelude.{pos, ◌<ℤ◌}
use Rattle.grid_exact.specs.Geometry.{Place, area_of}
use Rattle.lane_kernels.specs.declared.side.Hand.{Hand}
use Rattle.lane_kernels.specs.declared.side.Hand.TheVariants.{Left, Right}

-- p is strictly on this side of the way from a to b
abbrev pub IsOnSide : Hand → Place → Place → Place → Type 0
IsOnSide Left a b p = pos 0 <ℤ area_of a b p
IsOnSide Right a b p = area_of a b p <ℤ pos 0
