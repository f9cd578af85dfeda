-- What must not change sides where a chain is cut short.
use Rattle.std.specs.Prelude.{◌≢◌, ◌+◌, ◌<◌, ℕ, List, length, Contains}
use Rattle.std.specs.List.{between}
use Rattle.grid_exact.specs.Geometry.{Place}
use Rattle.arc_map.specs.Vertices.{places}
use Rattle.arc_map.specs.Allowed.{IsConsistent}
use Rattle.arc_map.specs.Chains.{Chain, chain_at, chain_places}
use Rattle.arc_map.specs.Paths.{vertices_of, vertex_at}

-- p is a feature point, or a vertex of another chain than the chain number k
pub data IsObstacle (chains : List Chain) (points : List Place) (k : ℕ) (p : Place) : Type 0 where
  Town : Contains points p → IsObstacle chains points k p
  Vertex : (l : ℕ) → l < length chains → l ≢ k → Contains (chain_places (chain_at chains l)) p → IsObstacle chains points k p

-- the consistency part of the pair (i, j) of the chain number k: no obstacle changes sides
abbrev pub IsConsistentPair : List Chain → List Place → ℕ → ℕ → ℕ → Type 0
IsConsistentPair chains points k i j = (p : Place) → IsObstacle chains points k p
    → IsConsistent (vertex_at (chain_at chains k) i).place (vertex_at (chain_at chains k) j).place
    (places (between (i + 1) j (vertices_of (chain_at chains k)))) p
