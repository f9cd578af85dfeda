-- A point beside a segment, and two segments with the same ends.
use Rattle.std.specs.Prelude.{◌≡◌, ◌⊎◌}
use Rattle.grid_exact.specs.Geometry.{Place, IsOnSegment, CommonPoint}

-- p is not on the segment ab
abbrev pub IsOffSegment : Place → Place → Place → Type 0
IsOffSegment p a b = ¬ (IsOnSegment a b p)

-- ab and cd have the same two ends, in either order
abbrev pub SameEnds : Place → Place → Place → Place → Type 0
SameEnds a b c d = ((a ≡ c) × (b ≡ d)) ⊎ ((a ≡ d) × (b ≡ c))

-- ab and cd have no common point
abbrev pub IsApart : Place → Place → Place → Place → Type 0
IsApart c d a b = ¬ (CommonPoint a b c d)
