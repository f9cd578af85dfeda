-- On which side of a chain a place is.
use Rattle.std.specs.Prelude.{◌≡◌, ◌⊎◌, List, [], ◌∷◌, ℤ, pos, ◌<ℤ◌}
use Rattle.grid_exact.specs.Geometry.{Place, area_of, IsOnSegment}
use Rattle.grid_exact.specs.Frame.{IsBeforeIn}
use Rattle.grid_exact.specs.Walks.{end_of}
use Rattle.grid_exact.specs.Runs.{IsEdgeOf, IsMonotone}
use Rattle.grid_exact.specs.declared.frame.Frame.{Frame}
use Rattle.grid_exact.specs.declared.frame.Frame.TheVariants.{Plain, Turned}
use Rattle.chain_side.specs.declared.sides.Side.{Side}
use Rattle.chain_side.specs.declared.sides.Side.TheVariants.{Above, On, Below, Outside}

-- the chain has two vertices or more, and runs strictly one way in the order of the frame
abbrev pub IsMonotoneChain : Frame → List Place → Type 0
IsMonotoneChain frame [] = ⊥
IsMonotoneChain frame (v ∷ []) = ⊥
IsMonotoneChain frame (v ∷ w ∷ ws) = IsMonotone frame v (w ∷ ws)

-- p is above the edge ab, a before b in the order of the frame: to the left of the way where x, then y is
-- compared, and to the right of it where y, then x is
abbrev pub IsAboveEdge : Frame → Place → Place → Place → Type 0
IsAboveEdge Plain a b p = pos 0 <ℤ area_of a b p
IsAboveEdge Turned a b p = area_of a b p <ℤ pos 0

-- and below it
abbrev pub IsBelowEdge : Frame → Place → Place → Place → Type 0
IsBelowEdge Plain a b p = area_of a b p <ℤ pos 0
IsBelowEdge Turned a b p = pos 0 <ℤ area_of a b p

-- p is strictly between a and b in the order of the frame: the edge ab spans p
pub data IsSpanned (frame : Frame) (a b p : Place) : Type 0 where
  Upwards : IsBeforeIn frame a p → IsBeforeIn frame p b → IsSpanned frame a b p
  Downwards : IsBeforeIn frame b p → IsBeforeIn frame p a → IsSpanned frame a b p

-- p is before both a and b in the order of the frame, or after both
pub data IsOutside (frame : Frame) (a b p : Place) : Type 0 where
  Before : IsBeforeIn frame p a → IsBeforeIn frame p b → IsOutside frame a b p
  After : IsBeforeIn frame a p → IsBeforeIn frame b p → IsOutside frame a b p

-- an edge of the walk from v along ws, its end that comes first in the order of the frame, and the other,
-- with p strictly between the two
pub record SpanningEdge (frame : Frame) (v : Place) (ws : List Place) (p : Place) : Type 0 where
  pub first : Place
  pub second : Place
  pub edge : IsEdgeOf v ws first second ⊎ IsEdgeOf v ws second first
  pub from : IsBeforeIn frame first p
  pub to : IsBeforeIn frame p second

-- an edge of the walk with p on it
pub record EdgeUnder (v : Place) (ws : List Place) (p : Place) : Type 0 where
  pub start : Place
  pub end : Place
  pub edge : IsEdgeOf v ws start end
  pub on : IsOnSegment start end p

-- p is on this side of the walk from v along ws
abbrev pub IsSideOf : Frame → Place → List Place → Place → Side → Type 0
IsSideOf frame v ws p Outside = IsOutside frame v (end_of v ws) p
IsSideOf frame v ws p On = EdgeUnder v ws p
IsSideOf frame v ws p Above = (e : SpanningEdge frame v ws p) × IsAboveEdge frame e.first e.second p
IsSideOf frame v ws p Below = (e : SpanningEdge frame v ws p) × IsBelowEdge frame e.first e.second p

-- p is on this side of the chain with these vertices
abbrev pub IsSideOfChain : Frame → List Place → Place → Side → Type 0
IsSideOfChain frame [] p side = ⊥
IsSideOfChain frame (v ∷ ws) p side = IsSideOf frame v ws p side

-- ---- of one edge

-- a place with this area to the left of the way is on this side, where the left is above
abbrev pub IsSideBySign : ℤ → Side → Type 0
IsSideBySign left Above = pos 0 <ℤ left
IsSideBySign left Below = left <ℤ pos 0
IsSideBySign left On = left ≡ pos 0
IsSideBySign left Outside = ⊥

-- a place between a and b is on this side of the edge ab, a before b in the order of the frame
abbrev pub IsSideOfEdge : Frame → Place → Place → Place → Side → Type 0
IsSideOfEdge frame a b p Above = IsAboveEdge frame a b p
IsSideOfEdge frame a b p Below = IsBelowEdge frame a b p
IsSideOfEdge frame a b p On = area_of a b p ≡ pos 0
IsSideOfEdge frame a b p Outside = ⊥
