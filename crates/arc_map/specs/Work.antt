-- A map at work: the map read, the places of its chains in it, and the chains as they are now.
use Rattle.std.specs.Prelude.{◌≡◌, ◌+◌, ◌-◌, ◌<◌, ℕ, List, map, drop, length, slice_index, All}
use Rattle.std.specs.List.{range_with_len}
use Rattle.std.specs.List.Sorted.{IsStrictlyIncreasing}
use Rattle.arc_map.specs.Map.{Map}
use Rattle.arc_map.specs.Vertices.{Vertex}
use Rattle.arc_map.specs.Chains.{Chain, chain_at, thinned}
use Rattle.arc_map.specs.Paths.{vertices_at}
use Rattle.arc_map.specs.Arcs.{AreChainsOf}
use Rattle.arc_map.specs.Arranged.{arc_at, position_at, is_arc_end}
use Rattle.arc_map.specs.declared.refs.ChainRef.{ChainRef}

-- the vertex at this place of the arc
abbrev pub vertex_in : Map → ℕ → ℕ → Vertex
vertex_in m arc at = record { arc = arc; at = at; is_end = is_arc_end m arc at; place = position_at m arc at }

-- the chain as the map has it
abbrev pub chain_in : Map → ChainRef → Chain
chain_in m r = record {
  frame = r.frame;
  first = vertex_in m r.arc r.«from»;
  rest =
      map (vertex_in m r.arc) (range_with_len (r.«from» + 1) (r.to - r.«from»));
}

-- the chain has an edge, and lies in its arc
pub record LiesInArc (m : Map) (r : ChainRef) : Type 0 where
  pub arc : r.arc < length m.arcs
  pub edge : r.«from» < r.to
  pub within : r.to < length (arc_at m r.arc)

-- these are the chains of the map
pub record AreChainsIn (m : Map) (refs : List ChainRef) : Type 0 where
  pub lie : All (LiesInArc m) refs
  pub cut : AreChainsOf 0 m.arcs (map (chain_in m) refs)

-- a map at work
pub record Work : Type 0 where
  -- the map read, and the places of its chains there
  pub read : Map
  pub refs : List ChainRef
  -- the chains as they are now
  pub chains : List Chain

-- the map as it was read, with its chains
abbrev pub work_of : Map → List ChainRef → Work
work_of m refs = record { read = m; refs = refs; chains = map (chain_in m) refs }

-- places in a chain, from 0, that rise from its first to its last
pub record AreKeptIn (k : Chain) (places : List ℕ) : Type 0 where
  pub rising : IsStrictlyIncreasing places
  pub some : 0 < length places
  pub first : slice_index places 0 ≡ 0
  pub last : slice_index places (length places - 1) ≡ length k.rest

-- the map in which chain number k has just the vertices at these places
abbrev pub thinned_work : Work → ℕ → List ℕ → Work
thinned_work w k places = record w { chains = thinned w.chains k (vertices_at (chain_at w.chains k) (drop 1 places)) }
