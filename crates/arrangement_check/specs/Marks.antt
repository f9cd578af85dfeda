-- Marks of arcs: one for each arc of a map.
use Rattle.std.specs.Prelude.{ℕ, Bool, false, List, IsTrue, slice_index_or}
use Rattle.arc_map.specs.Map.{Map}
use Rattle.arc_map.specs.Arranged.{EdgesClash, IsEarlier, IsHeld, IsMapEdge}
use Rattle.arc_map.specs.declared.refs.EdgeRef.{EdgeRef}

-- the arc is marked
abbrev pub IsMarked : List Bool → ℕ → Type 0
IsMarked marks arc = IsTrue (slice_index_or marks arc false)

-- the arcs that are marked are held
abbrev pub MarksHeld : Map → List Bool → Type 0
MarksHeld m marks = (arc : ℕ) → IsMarked marks arc → IsHeld m arc

-- the arcs of edges that clash are marked
abbrev pub MarksClashes : Map → List Bool → Type 0
MarksClashes m marks = (e f : EdgeRef) → IsMapEdge m e → IsMapEdge m f → IsEarlier e f → EdgesClash m e f
    → IsMarked marks e.arc × IsMarked marks f.arc
