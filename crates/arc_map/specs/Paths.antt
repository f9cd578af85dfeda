-- Allowed pairs and paths by the numbers of a chain's vertices.
use Rattle.std.specs.Prelude.{◌≡◌, ◌+◌, ◌<◌, ℕ, List, [], ◌∷◌, length, get_or, map, Contains}
use Rattle.std.specs.List.{between}
use Rattle.grid_exact.specs.Geometry.{Place}
use Rattle.grid_exact.specs.Paths.{LeadsTo}
use Rattle.arc_map.specs.Vertices.{Vertex}
use Rattle.arc_map.specs.Allowed.{IsAllowed}
use Rattle.arc_map.specs.Chains.{Chain, chain_at, IsOtherEdge, thinned}

-- the vertices of a chain, numbered from 0
abbrev pub vertices_of : Chain → List Vertex
vertices_of k = k.first ∷ k.rest

abbrev pub vertex_at : Chain → ℕ → Vertex
vertex_at k i = get_or (vertices_of k) i k.first

-- the pair (i, j) of the chain number k is allowed: see `IsAllowed`
abbrev pub IsAllowedPair : (Place → Place → Place → Type 0) → List Chain → List Place → ℕ → ℕ → ℕ → Type 0
IsAllowedPair Near chains points k i j = IsAllowed Near (IsOtherEdge chains k) (Contains points) (vertex_at (chain_at chains k) i)
    (between (i + 1) j (vertices_of (chain_at chains k))) (vertex_at (chain_at chains k) j)

-- the vertices with these numbers
abbrev pub vertices_at : Chain → List ℕ → List Vertex
vertices_at k numbers = map (λ i. vertex_at k i) numbers

-- a step: a chain's number, and the numbers of its kept vertices after the first
pub record Step : Type 0 where
  pub chain : ℕ
  pub numbers : List ℕ

-- from the chains the steps lead to those after: each step's chain is of an arc that is not held, and is
-- replaced by a path of pairs that are allowed in the map as found
abbrev pub AreSteps : (Place → Place → Place → Type 0) → List ℕ → List Place → List Chain → List Step → List Chain → Type 0
AreSteps Near held points chains [] after = chains ≡ after
AreSteps Near held points chains (s ∷ ss) after =
    (s.chain < length chains)
    × ¬ (Contains held (chain_at chains s.chain).first.arc)
    × LeadsTo (IsAllowedPair Near chains points s.chain) (length (chain_at chains s.chain).rest) 0 s.numbers
    × AreSteps Near held points (thinned chains s.chain (vertices_at (chain_at chains s.chain) s.numbers)) ss after
