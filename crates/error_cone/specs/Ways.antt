-- Ways from a place of a chain, by how far they go across and up in the axes of the chain.
use Rattle.std.specs.Prelude.{◌+◌, ◌^◌, ◌≤◌, ℤ, pos, ◌+ℤ◌, ◌-ℤ◌, ◌*ℤ◌, ◌≤ℤ◌, Bool, true, false, ◌&&◌, ◌||◌, int_lt, int_le, unsigned_abs}
use Rattle.grid_exact.specs.Geometry.{Place}
use Rattle.grid_exact.specs.declared.frame.Frame.{Frame}
use Rattle.grid_exact.specs.declared.frame.Frame.TheVariants.{Plain, Turned}
use Rattle.error_cone.specs.declared.ways.Way.{Way}

-- the way from a to b, across in the coordinate that the frame compares first
abbrev pub step_of : Frame → Place → Place → Way
step_of Plain a b = record { across = b.x -ℤ a.x; up = b.y -ℤ a.y }
step_of Turned a b = record { across = b.y -ℤ a.y; up = b.x -ℤ a.x }

-- the way from a to b in the axes of a chain that rises in the order of the frame, or, turned half round, of one that falls
abbrev pub way_of : Frame → Bool → Place → Place → Way
way_of frame true a b = step_of frame a b
way_of frame false a b = step_of frame b a

-- the way goes on across, or else straight up
abbrev pub is_forward : Way → Bool
is_forward w = int_lt (pos 0) w.across || (int_le (pos 0) w.across && int_lt (pos 0) w.up)

-- the way upside down
abbrev pub mirrored : Way → Way
mirrored w = record { across = w.across; up = pos 0 -ℤ w.up }

-- the way goes at most 2^31 across and up
abbrev pub IsSmall : Way → Type 0
IsSmall w = (unsigned_abs w.across ≤ 2 ^ 31) × (unsigned_abs w.up ≤ 2 ^ 31)

-- of two ways that go forward, d is not steeper than the limit
abbrev pub IsUnder : Way → Way → Type 0
IsUnder limit d = (d.up *ℤ limit.across) ≤ℤ (d.across *ℤ limit.up)

-- how far the way goes on both axes together
abbrev pub length_of : Way → ℤ
length_of d = pos (unsigned_abs d.across + unsigned_abs d.up)

-- the line in the direction d is not above the square of all that is at most e off the end of a on both axes
abbrev pub IsUnderSquare : ℤ → Way → Way → Type 0
IsUnderSquare e a d = (d.up *ℤ a.across) ≤ℤ (d.across *ℤ a.up +ℤ e *ℤ length_of d)

-- the line in the direction d meets this square
pub record MeetsSquare (e : ℤ) (a d : Way) : Type 0 where
  pub not_above : IsUnderSquare e a d
  pub not_below : IsUnderSquare e (mirrored a) (mirrored d)
