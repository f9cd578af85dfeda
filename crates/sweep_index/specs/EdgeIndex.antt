-- What an index of a map's edges and feature points gives.
use Rattle.std.specs.Prelude.{◌^◌, ℕ, List}
use Rattle.arc_map.specs.Map.{Map}
use Rattle.arc_map.specs.declared.refs.EdgeRef.{EdgeRef}
use Rattle.sweep_index.specs.Meetings.{meetings_of}
use Rattle.sweep_index.specs.Pairs.{pairs_in, towns_in, ArePairsOf, AreTownsOf}
use Rattle.sweep_index.specs.declared.edges.EdgeIndex.{EdgeIndex}

-- the pairs of edges whose boxes meet
abbrev pub pairs_of : EdgeIndex → List (EdgeRef × EdgeRef)
pairs_of index = pairs_in (meetings_of (2 ^ index.shift) index.things.items)

-- the feature points with the edges whose boxes hold them
abbrev pub towns_of : EdgeIndex → List (ℕ × EdgeRef)
towns_of index = towns_in (meetings_of (2 ^ index.shift) index.things.items)

-- the index gives just the pairs of the map's edges whose boxes meet, and its feature points with the edges whose boxes hold them
pub record IsIndexOf (m : Map) (index : EdgeIndex) : Type 0 where
  pub pairs : ArePairsOf m (pairs_of index)
  pub towns : AreTownsOf m (towns_of index)
