-- What meetings tell of edges and feature points.
use Rattle.std.specs.Prelude.{◌<◌, ◌≢◌, IsTrue, length, get_or, All, AllPairs, Contains, ◌&&◌, ◌||◌, ◌==◌, nat_lt, ℕ, Bool, if◌then◌else◌}
use Rattle.std.specs.Prelude.{List, Option, Some, None}
use Rattle.std.specs.List.{filter_map}
use Rattle.arc_map.specs.Map.{Map}
use Rattle.arc_map.specs.Arranged.{IsMapEdge, IsEarlier, nowhere}
use Rattle.arc_map.specs.declared.refs.EdgeRef.{EdgeRef}
use Rattle.sweep_index.specs.Boxes.{BoxesMeet, BoxHolds}
use Rattle.sweep_index.specs.declared.things.Thing.{Thing}
use Rattle.sweep_index.specs.declared.things.Thing.TheVariants.{Edge, Town}
use Rattle.sweep_index.specs.declared.things.Banded.{Banded}

-- whether e is before f: by arc, then by place in the arc
abbrev pub is_earlier : EdgeRef → EdgeRef → Bool
is_earlier e f = nat_lt e.arc f.arc || ((e.arc == f.arc) && nat_lt e.at f.at)

-- two different edges, the lesser first
abbrev pub ordered : EdgeRef → EdgeRef → Option (EdgeRef × EdgeRef)
ordered e f = if is_earlier e f then Some (e, f) else (if is_earlier f e then Some (f, e) else None)

abbrev pub edges_met : Thing → Thing → Option (EdgeRef × EdgeRef)
edges_met (Edge e) (Edge f) = ordered e f
edges_met (Edge e) (Town k) = None
edges_met (Town k) (Edge f) = None
edges_met (Town k) (Town l) = None

abbrev pub town_met : Thing → Thing → Option (ℕ × EdgeRef)
town_met (Edge e) (Edge f) = None
town_met (Edge e) (Town k) = Some (k, e)
town_met (Town k) (Edge f) = Some (k, f)
town_met (Town k) (Town l) = None

abbrev pub pairs_in : List (Banded × Banded) → List (EdgeRef × EdgeRef)
pairs_in ms = filter_map (λ m. edges_met m.0.thing m.1.thing) ms

abbrev pub towns_in : List (Banded × Banded) → List (ℕ × EdgeRef)
towns_in ms = filter_map (λ m. town_met m.0.thing m.1.thing) ms

-- two edges of the map whose boxes meet, the lesser first
pub record IsPairOf (m : Map) (pair : EdgeRef × EdgeRef) : Type 0 where
  pub first : IsMapEdge m pair.0
  pub second : IsMapEdge m pair.1
  pub rising : IsTrue (is_earlier pair.0 pair.1)
  pub boxes : BoxesMeet m pair.0 pair.1

-- a feature point of the map, and an edge whose box holds it
pub record IsTownOf (m : Map) (town : ℕ × EdgeRef) : Type 0 where
  pub point : town.0 < length m.points
  pub edge : IsMapEdge m town.1
  pub box : BoxHolds m town.1 (get_or m.points town.0 nowhere)

-- these are the pairs of different edges of the map whose boxes meet, the lesser first, each once
pub record ArePairsOf (m : Map) (pairs : List (EdgeRef × EdgeRef)) : Type 0 where
  pub only : All (IsPairOf m) pairs
  pub all : (e f : EdgeRef) → IsMapEdge m e → IsMapEdge m f → IsEarlier e f → BoxesMeet m e f → Contains pairs (e, f)
  pub once : AllPairs (λ a b. a ≢ b) pairs

-- these are the feature points of the map with the edges whose boxes hold them, each once
pub record AreTownsOf (m : Map) (towns : List (ℕ × EdgeRef)) : Type 0 where
  pub only : All (IsTownOf m) towns
  pub all : (k : ℕ) (e : EdgeRef) → k < length m.points → IsMapEdge m e → BoxHolds m e (get_or m.points k nowhere) → Contains towns (k, e)
  pub once : AllPairs (λ a b. a ≢ b) towns
