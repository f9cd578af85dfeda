-- The order of places along a chain, and the vertices of a chain by number.
use Rattle.std.specs.Prelude.{ℕ, Bool, true, false, List, pos, slice_index_or}
use Rattle.grid_exact.specs.Geometry.{Place}
use Rattle.grid_exact.specs.Frame.{IsBeforeIn}
use Rattle.grid_exact.specs.declared.frame.Frame.{Frame}

-- a comes before b along a chain that rises in the order of the frame, or that falls
abbrev pub IsAlong : Frame → Bool → Place → Place → Type 0
IsAlong frame true a b = IsBeforeIn frame a b
IsAlong frame false a b = IsBeforeIn frame b a

-- the vertex number k of the chain
abbrev pub vertex_at : List Place → ℕ → Place
vertex_at chain k = slice_index_or chain k (record { x = pos 0; y = pos 0 })
