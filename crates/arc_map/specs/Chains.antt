-- A map as the list of its chains, with its feature points. Each chain is in it once, and no edge is outside it.
use Rattle.std.specs.Prelude.{◌≡◌, ◌≢◌, ◌⊎◌, ℕ, ℤ, pos, Bool, false, List, [], ◌∷◌, get_or, slice_set, Contains}
use Rattle.grid_exact.specs.Geometry.{Place}
use Rattle.grid_exact.specs.declared.frame.Frame.{Frame}
use Rattle.grid_exact.specs.declared.frame.Frame.TheVariants.{Plain}
use Rattle.grid_exact.specs.Crossing.{is_crossed}
use Rattle.grid_exact.specs.Walks.{EachEdge, count_edges, is_odd, end_of}
use Rattle.grid_exact.specs.Near.{IsNear}
use Rattle.arc_map.specs.Vertices.{Vertex, places}
use Rattle.grid_exact.specs.Runs.{IsEdgeOf, IsMonotone}
use Rattle.arc_map.specs.Allowed.{IsAllowed, IsPath}
use Rattle.arc_map.specs.Clear.{IsClear, IsWithinChain, EachButLast}

-- a chain: its frame, its first vertex and those after it
pub record Chain : Type 0 where
  pub frame : Frame
  pub first : Vertex
  pub rest : List Vertex

-- the places of the vertices of a chain
abbrev pub chain_places : Chain → List Place
chain_places k = k.first.place ∷ places k.rest

-- what stands past the end of a list of chains: it has no edge
abbrev pub no_chain : Chain
no_chain = record { frame = Plain; first = record { arc = 0; at = 0; is_end = false; place = record { x = pos 0; y = pos 0 } }; rest = [] }

abbrev pub chain_at : List Chain → ℕ → Chain
chain_at chains k = get_or chains k no_chain

-- cd is an edge of another chain than the chain number k
pub record IsOtherEdge (chains : List Chain) (k : ℕ) (c d : Vertex) : Type 0 where
  pub chain : ℕ
  pub other : chain ≢ k
  pub edge : IsEdgeOf (chain_at chains chain).first (chain_at chains chain).rest c d

-- the chains run strictly one way, each in its frame and within one arc, and have no vertex in common
-- but their ends; no vertex within a chain ends its arc
pub record AreChains (chains : List Chain) : Type 0 where
  pub monotone : (k : ℕ) → IsMonotone (chain_at chains k).frame (chain_at chains k).first.place (places (chain_at chains k).rest)
  pub one_arc : (k : ℕ) → EachEdge (λ a b. a.arc ≡ (chain_at chains k).first.arc) (chain_at chains k).first (chain_at chains k).rest
  pub within : (k : ℕ) → EachButLast (IsWithinChain (IsOtherEdge chains k)) (chain_at chains k).rest

-- the chain number k is clear: no edge of it clashes with another edge of the map, and no feature point lies on one
abbrev pub IsClearIn : List Chain → List Place → ℕ → Type 0
IsClearIn chains points k = IsClear (IsOtherEdge chains k) (Contains points) (chain_at chains k).first (chain_at chains k).rest

-- the map is arranged beside the held arcs: each chain of another arc is clear
abbrev pub IsArrangedBeside : List ℕ → List Chain → List Place → Type 0
IsArrangedBeside held chains points = (k : ℕ) → ¬ (Contains held (chain_at chains k).first.arc) → IsClearIn chains points k

-- p is within the bound of the segment ab, with these weights
abbrev pub IsWithinBound : ℤ → ℤ → ℤ → Place → Place → Place → Type 0
IsWithinBound wx wy bound a b p = IsNear wx wy a b p bound

-- the place p is the first or the last of the chain
abbrev pub EndsAt : Place → Chain → Type 0
EndsAt p k = (k.first.place ≡ p) ⊎ ((end_of k.first k.rest).place ≡ p)

-- kept, after the first vertex, is a path of the chain number k in the map: its consecutive pairs are allowed
abbrev pub IsPathIn : (Place → Place → Place → Type 0) → List Chain → List Place → ℕ → List Vertex → Type 0
IsPathIn Near chains points k kept = IsPath (IsAllowed Near (IsOtherEdge chains k) (Contains points)) (chain_at chains k).first
    (chain_at chains k).rest kept

-- the map in which just these vertices are left of the chain number k, after its first
abbrev pub thinned : List Chain → ℕ → List Vertex → List Chain
thinned chains k kept = slice_set chains k (record { frame = (chain_at chains k).frame; first = (chain_at chains k).first; rest = kept })

-- whether the chain is crossed from p an odd number of times
abbrev pub is_crossed_oddly : Place → Chain → Bool
is_crossed_oddly p k = is_odd (count_edges (is_crossed p) k.first.place (places k.rest))
