-- The consistency part of an allowed pair, by obstacles and by edges.
use Rattle.std.specs.Prelude.{◌↔◌, ◌+◌, ◌<◌, ℕ, List, length, All, Contains}
use Rattle.std.specs.List.{between}
use Rattle.grid_exact.specs.Geometry.{Place}
use Rattle.arc_map.specs.Vertices.{Vertex, places}
use Rattle.arc_map.specs.Allowed.{IsConsistent}
use Rattle.arc_map.specs.Chains.{Chain, chain_at, IsOtherEdge}
use Rattle.arc_map.specs.Paths.{vertices_of, vertex_at}
use Rattle.side_wedge.specs.Obstacles.{IsConsistentPair}

-- no feature point and no end of an edge changes sides where the run from v over the skipped vertices to w becomes the segment vw:
-- the consistency part of `IsShortcut`
pub record AreConsistent (IsEdge : Vertex → Vertex → Type 0) (IsPoint : Place → Type 0) (v : Vertex) (skipped : List Vertex) (w : Vertex) :
    Type 0 where
  pub points : (p : Place) → IsPoint p → IsConsistent v.place w.place (places skipped) p
  pub starts : (c d : Vertex) → IsEdge c d → IsConsistent v.place w.place (places skipped) c.place
  pub ends : (c d : Vertex) → IsEdge c d → IsConsistent v.place w.place (places skipped) d.place

-- Where each chain has an edge, no obstacle changes sides exactly where no feature point and no end of an edge of another chain does.
abbrev pub ConsistencyByEdges : Type 0
ConsistencyByEdges = (chains : List Chain) (points : List Place) (k i j : ℕ) → All (λ chain. 0 < length chain.rest) chains
    → IsConsistentPair chains points k i j
    ↔ AreConsistent (IsOtherEdge chains k) (Contains points) (vertex_at (chain_at chains k) i)
    (between (i + 1) j (vertices_of (chain_at chains k))) (vertex_at (chain_at chains k) j)
