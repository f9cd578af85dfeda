-- Offsets of places, boxes round lists of positions, and their ends.
use Rattle.std.specs.Prelude.{◌≡◌, ◌-◌, ◌≤◌, ◌^◌, ◌&&◌, ℕ, Bool, List, All, length, get_or, nat_lt, nat_le}
use Rattle.grid_exact.specs.Geometry.{Place, IsOnGrid}
use Rattle.grid_exact.specs.Walks.{differ}
use Rattle.arc_map.specs.Arranged.{nowhere}
use Rattle.sweep_index.specs.Offsets.{offset_of}
use Rattle.face_parity.specs.declared.bounds.Offset.{Offset}
use Rattle.face_parity.specs.declared.bounds.Bounds.{Bounds}
use Rattle.face_parity.specs.declared.bounds.Ends.{Ends}

-- these are the coordinates of a place of the grid, counted from the least one
pub record IsOffsetOf (p : Place) (at : Offset) : Type 0 where
  pub on_grid : IsOnGrid p
  pub x : at.x ≡ offset_of p.x
  pub y : at.y ≡ offset_of p.y
  pub small : (at.x ≤ 2 ^ 30) × (at.y ≤ 2 ^ 30)

-- the place is on the grid and in the box
pub record IsIn (b : Bounds) (q : Place) : Type 0 where
  pub on_grid : IsOnGrid q
  pub west : b.west ≤ offset_of q.x
  pub east : offset_of q.x ≤ b.east
  pub south : b.south ≤ offset_of q.y
  pub north : offset_of q.y ≤ b.north

-- the box is round the positions
abbrev pub IsRound : List Place → Bounds → Type 0
IsRound ps b = All (IsIn b) ps

-- whether the x is in the range of the box, and the y not above it
abbrev pub does_reach : Bounds → Offset → Bool
does_reach b at = nat_le b.west at.x && nat_le at.x b.east && nat_le at.y b.north

-- these are the x of the first and of the last position
pub record IsEndsOf (ps : List Place) (e : Ends) : Type 0 where
  pub first : e.first ≡ offset_of (get_or ps 0 nowhere).x
  pub last : e.last ≡ offset_of (get_or ps (length ps - 1) nowhere).x

-- whether just one of the two is left of x
abbrev pub do_part : Ends → ℕ → Bool
do_part e x = differ (nat_lt e.first x) (nat_lt e.last x)
