-- How the chains of a map at work lie in memory: one list has the positions of all their vertices, of which each chain is a part.
use Rattle.std.specs.Prelude.{◌≡◌, ◌≢◌, ◌+◌, ◌-◌, ◌<◌, ◌≤◌, ◌^◌, ℕ, suc, List, [], ◌∷◌, if◌then◌else◌, map, drop, length, slice_index}
use Rattle.std.specs.Prelude.{slice_range, All, AllPairs}
use Rattle.std.specs.List.{AllAdjacentBelow}
use Rattle.std.specs.List.Sorted.{IsStrictlyIncreasing}
use Rattle.grid_exact.specs.Geometry.{Place}
use Rattle.arc_map.specs.Map.{Map}
use Rattle.grid_exact.specs.Runs.{IsMonotone}
use Rattle.arc_map.specs.Vertices.{places}
use Rattle.arc_map.specs.Chains.{Chain}
use Rattle.arc_map.specs.Arcs.{most_edges}
use Rattle.arc_map.specs.Arranged.{arc_at, position_at}
use Rattle.arc_map.specs.Ends.{is_same}
use Rattle.arc_map.specs.Work.{Work, vertex_in, LiesInArc}
use Rattle.arc_map.specs.declared.refs.ChainRef.{ChainRef}
use Rattle.arc_map.specs.declared.work.Span.{Span}
use Rattle.arc_map.specs.declared.work.WorkMap.TheInside.{Inside}

-- a chain in memory: its place in the map read, and the positions of its vertices
pub record LiveChain : Type 0 where
  pub place : ChainRef
  pub vertices : List Place

-- the chain whose vertices are this part of the list
abbrev pub chain_of : List Place → Span → LiveChain
chain_of vertices s = record { place = s.place; vertices = slice_range vertices s.start s.end }

-- the list has this part, and it is not empty
pub record IsPartOf (vertices : List Place) (s : Span) : Type 0 where
  pub some : s.start < s.end
  pub within : s.end ≤ length vertices

-- how many places of the list stand before the first that is p
abbrev pub places_before : Place → List Place → ℕ
places_before p [] = 0
places_before p (q ∷ qs) = if is_same p q then 0 else suc (places_before p qs)

-- the number in its arc as read of the vertex with this position
abbrev pub number_of : Map → ChainRef → Place → ℕ
number_of m r p = r.«from» + places_before p (slice_range (arc_at m r.arc) r.«from» (r.to + 1))

abbrev pub numbers_of : Map → LiveChain → List ℕ
numbers_of m c = map (number_of m c.place) c.vertices

-- the chain of the vertices with these numbers
abbrev pub numbered : Map → ChainRef → List ℕ → Chain
numbered m r numbers = record { frame = r.frame; first = vertex_in m r.arc r.«from»; rest = map (vertex_in m r.arc) (drop 1 numbers) }

abbrev pub live_chain : Map → LiveChain → Chain
live_chain m c = numbered m c.place (numbers_of m c)

abbrev pub chains_in : Inside → List LiveChain
chains_in w = map (chain_of w.vertices.items) w.chains.items

abbrev pub work_in : Inside → Work
work_in w = record { read = w.base; refs = map (λ s. s.place) w.chains.items; chains = map (live_chain w.base) (chains_in w) }

-- the chain is in memory as the map has it
pub record IsRead (m : Map) (r : ChainRef) (c : LiveChain) : Type 0 where
  pub place : c.place ≡ r
  pub vertices : c.vertices ≡ slice_range (arc_at m r.arc) r.«from» (r.to + 1)

-- the numbers rise from the chain's first to its last
pub record SpansChain (r : ChainRef) (numbers : List ℕ) : Type 0 where
  pub rising : IsStrictlyIncreasing numbers
  pub several : 2 ≤ length numbers
  pub first : slice_index numbers 0 ≡ r.«from»
  pub last : slice_index numbers (length numbers - 1) ≡ r.to

pub record IsLive (m : Map) (c : LiveChain) : Type 0 where
  pub lies : LiesInArc m c.place
  pub spans : SpansChain c.place (numbers_of m c)
  pub short : length (numbers_of m c) ≤ most_edges + 1
  pub positions : c.vertices ≡ map (position_at m c.place.arc) (numbers_of m c)
  pub distinct : AllPairs (λ p q. p ≢ q) c.vertices
  pub one_way : IsMonotone c.place.frame (live_chain m c).first.place (places (live_chain m c).rest)

-- of one arc, each chain ends where the next begins
abbrev pub AreJoined : List ChainRef → Type 0
AreJoined refs = AllAdjacentBelow (λ r s. r.arc ≡ s.arc → r.to ≡ s.«from») refs (length refs)

-- of one arc, each chain ends before the later ones begin
abbrev pub AreInOrder : List ChainRef → Type 0
AreInOrder refs = AllPairs (λ r s. r.arc ≡ s.arc → r.to ≤ s.«from») refs

pub record AreLive (w : Inside) : Type 0 where
  pub few : length w.chains.items ≤ 2 ^ 20
  pub joined : AreJoined (map (λ s. s.place) w.chains.items)
  pub in_order : AreInOrder (map (λ s. s.place) w.chains.items)
  pub chains : All (IsLive w.base) (chains_in w)
  -- the parts of the list lie one behind the other
  pub apart : AllPairs (λ s t. s.end ≤ t.start) w.chains.items
  pub within : All (IsPartOf w.vertices.items) w.chains.items
