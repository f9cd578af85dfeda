-- Edges of other chains between two vertices of a chain.
use Rattle.std.specs.Prelude.{◌≡◌, ◌≢◌, ◌⊎◌, ◌<◌, ℕ, List, [], ◌∷◌, length}
use Rattle.grid_exact.specs.Geometry.{Place}
use Rattle.grid_exact.specs.Segments.{SameEnds}
use Rattle.arc_map.specs.Vertices.{Vertex}
use Rattle.arc_map.specs.Chains.{Chain, chain_at, chain_places, IsOtherEdge}
use Rattle.arc_map.specs.Paths.{vertex_at}
use Rattle.side_wedge.specs.Obstacles.{IsConsistentPair}

-- an edge of another chain than the chain number k has the vertices i and j of this chain as its ends
pub record HasDoubleEdge (chains : List Chain) (k i j : ℕ) : Type 0 where
  pub start : Vertex
  pub end : Vertex
  pub edge : IsOtherEdge chains k start end
  pub same : SameEnds (vertex_at (chain_at chains k) i).place (vertex_at (chain_at chains k) j).place start.place end.place

-- these places are a and b, in either order
abbrev pub AreEndsOf : Place → Place → List Place → Type 0
AreEndsOf a b places = (places ≡ a ∷ b ∷ []) ⊎ (places ≡ b ∷ a ∷ [])

-- the chain number l is another than the chain number k, and one edge between a and b
pub record IsTwin (chains : List Chain) (k l : ℕ) (a b : Place) : Type 0 where
  pub other : l ≢ k
  pub edge : AreEndsOf a b (chain_places (chain_at chains l))

-- another chain is one edge between the ends of the chain number k
pub record IsDoubled (chains : List Chain) (k : ℕ) : Type 0 where
  pub chain : ℕ
  pub within : chain < length chains
  pub twin : IsTwin chains k chain (vertex_at (chain_at chains k) 0).place
      (vertex_at (chain_at chains k) (length (chain_at chains k).rest)).place

-- the pair (i, j) of the chain number k is consistent and has no double edge, so that only the bound can stand against it
abbrev pub IsOpenPair : List Chain → List Place → ℕ → ℕ → ℕ → Type 0
IsOpenPair chains points k i j = IsConsistentPair chains points k i j × ¬ (HasDoubleEdge chains k i j)
