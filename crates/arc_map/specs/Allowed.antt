-- Allowed pairs of a chain, and its paths. The rest of the map is given by its edges and its feature points.
use Rattle.std.specs.Prelude.{◌≡◌, false, List, [], ◌∷◌, ◌++◌, All}
use Rattle.grid_exact.specs.Geometry.{Place, IsOnSegment}
use Rattle.grid_exact.specs.Crossing.{is_crossed}
use Rattle.grid_exact.specs.Walks.{count_edges, is_odd}
use Rattle.grid_exact.specs.Segments.{SameEnds}
use Rattle.arc_map.specs.Vertices.{Vertex, places}

-- p does not change sides where the run from v over the skipped places to w becomes the segment vw:
-- it is an end of the segment, or it is not on it and the closed walk there and back is crossed an
-- even number of times
pub data IsConsistent (v w : Place) (skipped : List Place) (p : Place) : Type 0 where
  AtStart : p ≡ v → IsConsistent v w skipped p
  AtEnd : p ≡ w → IsConsistent v w skipped p
  SameSide : ¬ (IsOnSegment v w p) → is_odd (count_edges (is_crossed p) v (skipped ++ w ∷ v ∷ [])) ≡ false → IsConsistent v w skipped p

-- the edge vw may take the place of the run from v over the skipped vertices to w
pub record IsShortcut (IsNear : Place → Place → Place → Type 0) (IsEdge : Vertex → Vertex → Type 0) (IsPoint : Place
    → Type 0) (v : Vertex) (skipped : List Vertex) (w : Vertex) : Type 0 where
  -- the nearness part
  pub near : All (λ k. IsNear v.place w.place k.place) skipped
  -- the consistency part, for feature points and for the vertices of other chains
  pub points : (p : Place) → IsPoint p → IsConsistent v.place w.place (places skipped) p
  pub starts : (c d : Vertex) → IsEdge c d → IsConsistent v.place w.place (places skipped) c.place
  pub ends : (c d : Vertex) → IsEdge c d → IsConsistent v.place w.place (places skipped) d.place
  -- the double-edge part
  pub single : (c d : Vertex) → IsEdge c d → ¬ (SameEnds v.place w.place c.place d.place)

-- the pair of v and w is allowed
pub data IsAllowed (IsNear : Place → Place → Place → Type 0) (IsEdge : Vertex → Vertex → Type 0) (IsPoint : Place
    → Type 0) (v : Vertex) (skipped : List Vertex) (w : Vertex) : Type 0 where
  Neighbours : skipped ≡ [] → IsAllowed IsNear IsEdge IsPoint v skipped w
  Shortcut : IsShortcut IsNear IsEdge IsPoint v skipped w → IsAllowed IsNear IsEdge IsPoint v skipped w

-- a path of the chain from v along ws: the kept vertices after v, up to the last, with consecutive
-- pairs allowed
abbrev pub IsPath : (Vertex → List Vertex → Vertex → Type 0) → Vertex → List Vertex → List Vertex → Type 0
IsPath Allowed v ws [] = ws ≡ []
IsPath Allowed v ws (w ∷ kept) = (skipped : List Vertex) × (rest : List Vertex) × (ws ≡ skipped ++ w ∷ rest) × Allowed v skipped w
    × IsPath Allowed w rest kept
