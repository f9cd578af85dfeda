-- Clear chains, beside the other edges of a map and its feature points.
use Rattle.std.specs.Prelude.{◌≡◌, false, List, [], ◌∷◌}
use Rattle.grid_exact.specs.Geometry.{Place, IsOnSegment}
use Rattle.arc_map.specs.Vertices.{Vertex, MeetLawfully}
use Rattle.grid_exact.specs.Walks.{EachEdge}
use Rattle.grid_exact.specs.Runs.{EachTwoEdges}

-- the chain from v along ws is clear: none of its edges clashes with another edge, and no feature point
-- lies on one of its edges
pub record IsClear (IsEdge : Vertex → Vertex → Type 0) (IsPoint : Place → Type 0) (v : Vertex) (ws : List Vertex) : Type 0 where
  pub others : (c d : Vertex) → IsEdge c d → EachEdge (λ a b. MeetLawfully a b c d) v ws
  pub own : EachTwoEdges MeetLawfully v ws
  pub points : (p : Place) → IsPoint p → EachEdge (λ a b. ¬ (IsOnSegment a.place b.place p)) v ws

-- the vertex ends no arc and no other edge
pub record IsWithinChain (IsEdge : Vertex → Vertex → Type 0) (v : Vertex) : Type 0 where
  pub no_end : v.is_end ≡ false
  pub no_start_of : (c d : Vertex) → IsEdge c d → ¬ (v ≡ c)
  pub no_end_of : (c d : Vertex) → IsEdge c d → ¬ (v ≡ d)

-- each vertex of the list but the last
abbrev pub EachButLast : (Vertex → Type 0) → List Vertex → Type 0
EachButLast P [] = Unit {0}
EachButLast P (v ∷ []) = Unit {0}
EachButLast P (v ∷ w ∷ ws) = P v × EachButLast P (w ∷ ws)
