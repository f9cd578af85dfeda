-- The edges of a map in order, and when the map is arranged.
use Rattle.std.specs.Prelude.{◌⊎◌, ℕ, Bool, true, false, List, [], ◌∷◌, ◌++◌, nat_eq, Contains}
use Rattle.grid_exact.specs.Geometry.{Place, IsOnSegment}
use Rattle.grid_exact.specs.Walks.{differ}
use Rattle.arc_map.specs.Vertices.{Vertex, MeetLawfully}
use Rattle.arc_map.specs.Chains.{Chain, is_crossed_oddly}

pub record Edge : Type 0 where
  pub start : Vertex
  pub end : Vertex

abbrev pub edges_of : Vertex → List Vertex → List Edge
edges_of v [] = []
edges_of v (w ∷ ws) = record { start = v; end = w } ∷ edges_of w ws

abbrev pub edges_of_all : List Chain → List Edge
edges_of_all [] = []
edges_of_all (k ∷ ks) = edges_of k.first k.rest ++ edges_of_all ks

-- each element has the property
abbrev pub EachOf : {A : Type 0} → (A → Type 0) → List A → Type 0
EachOf P [] = Unit {0}
EachOf P (x ∷ xs) = P x × EachOf P xs

-- each element has the relation to each later one
abbrev pub EachTwo : {A : Type 0} → (A → A → Type 0) → List A → Type 0
EachTwo R [] = Unit {0}
EachTwo R (x ∷ xs) = EachOf (R x) xs × EachTwo R xs

-- the two edges do not clash, or are edges of held arcs
abbrev pub ClashOnlyIfHeld : List ℕ → Edge → Edge → Type 0
ClashOnlyIfHeld held e f = (Contains held e.start.arc × Contains held f.start.arc) ⊎ MeetLawfully e.start e.end f.start f.end

-- the map with these edges and feature points is arranged beside the held arcs: two edges that clash are
-- edges of held arcs, and a feature point lies on edges of held arcs alone
pub record EdgesAreArranged (held : List ℕ) (edges : List Edge) (points : List Place) : Type 0 where
  pub pairs : EachTwo (ClashOnlyIfHeld held) edges
  pub off : (p : Place) → Contains points p → EachOf (λ e. IsOnSegment e.start.place e.end.place p → Contains held e.start.arc) edges

-- whether the arc is crossed from p an odd number of times
abbrev pub is_arc_crossed_oddly : Place → ℕ → List Chain → Bool
is_arc_crossed_oddly p arc [] = false
is_arc_crossed_oddly p arc (k ∷ ks) = elim (nat_eq k.first.arc arc) [
  | true ↦ differ (is_crossed_oddly p k) (is_arc_crossed_oddly p arc ks)
  | false ↦ is_arc_crossed_oddly p arc ks
]
