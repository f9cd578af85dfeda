-- A map as its arcs, and the chains into which the arcs are cut.
use Rattle.std.specs.Prelude.{◌≡◌, ◌⊎◌, ◌<◌, ◌≤◌, ℕ, zero, suc, Bool, true, false, nat_eq, List, [], ◌∷◌, ◌++◌, length, get_or}
use Rattle.grid_exact.specs.Geometry.{Place}
use Rattle.grid_exact.specs.declared.frame.Frame.{Frame}
use Rattle.grid_exact.specs.declared.frame.Frame.TheVariants.{Plain, Turned}
use Rattle.grid_exact.specs.Crossing.{is_crossed}
use Rattle.grid_exact.specs.Walks.{count_edges, is_odd, end_of, differ}
use Rattle.arc_map.specs.Map.{Map}
use Rattle.arc_map.specs.Vertices.{Vertex, places}
use Rattle.grid_exact.specs.Runs.{IsMonotone}
use Rattle.arc_map.specs.Chains.{Chain}
use Rattle.arc_map.specs.Edges.{Edge, edges_of, EdgesAreArranged}

abbrev pub vertex : ℕ → ℕ → Bool → Place → Vertex
vertex arc at is_end place = record { arc = arc; at = at; is_end = is_end; place = place }

abbrev pub is_first : ℕ → Bool
is_first zero = true
is_first (suc at) = false

-- the vertices of an arc from its position number `at` on, which stands at the head of the list
abbrev pub vertices_from : ℕ → ℕ → List Place → List Vertex
vertices_from arc at [] = []
vertices_from arc at (p ∷ []) = vertex arc at true p ∷ []
vertices_from arc at (p ∷ q ∷ ps) = vertex arc at (is_first at) p ∷ vertices_from arc (suc at) (q ∷ ps)

abbrev pub edges_of_list : List Vertex → List Edge
edges_of_list [] = []
edges_of_list (v ∷ vs) = edges_of v vs

-- the edges of the arcs, the first of which has this number, in order of arc, then of position
abbrev pub edges_of_arcs : ℕ → List (List Place) → List Edge
edges_of_arcs arc [] = []
edges_of_arcs arc (ps ∷ pss) = edges_of_list (vertices_from arc 0 ps) ++ edges_of_arcs (suc arc) pss

-- the map is arranged beside the held arcs
abbrev pub IsMapArrangedBeside : List ℕ → Map → Type 0
IsMapArrangedBeside held m = EdgesAreArranged held (edges_of_arcs 0 m.arcs) m.points

-- ---- chains

-- how many edges a chain has at most
abbrev pub most_edges : ℕ
most_edges = 1023

-- of the walk from v along ws, the run of v and these vertices after it is the furthest that is monotone in the frame, within the limit
pub record IsFurthest (frame : Frame) (v : Vertex) (ws run : List Vertex) : Type 0 where
  pub rest : List Vertex
  pub starts : ws ≡ run ++ rest
  pub within : length run ≤ most_edges
  pub one_way : IsMonotone frame v.place (places run)
  pub furthest : (longer more : List Vertex) → ws ≡ longer ++ more → length longer ≤ most_edges → IsMonotone frame v.place (places longer)
      → length longer ≤ length run

-- the chain that is cut off the walk from v along ws: the furthest run of the two frames, of the plain one at a tie
pub data IsNextChain (v : Vertex) (ws : List Vertex) (k : Chain) : Type 0 where
  PlainReaches : (other : List Vertex) → k.frame ≡ Plain → IsFurthest Plain v ws k.rest → IsFurthest Turned v ws other
      → length other ≤ length k.rest → IsNextChain v ws k
  TurnedReaches : (other : List Vertex) → k.frame ≡ Turned → IsFurthest Plain v ws other → IsFurthest Turned v ws k.rest
      → length other < length k.rest → IsNextChain v ws k

-- the walk from v along ws is cut into these chains; each chain has an edge
abbrev pub IsCutInto : Vertex → List Vertex → List Chain → Type 0
IsCutInto v ws [] = ws ≡ []
IsCutInto v ws (k ∷ ks) = (k.first ≡ v) × IsNextChain v ws k × (rest : List Vertex) × (ws ≡ k.rest ++ rest)
    × IsCutInto (end_of v k.rest) rest ks × (0 < length k.rest)

-- the arc with these vertices is cut into these chains
abbrev pub IsListCutInto : List Vertex → List Chain → Type 0
IsListCutInto [] ks = ks ≡ []
IsListCutInto (v ∷ vs) ks = IsCutInto v vs ks

-- the chains of the arcs, the first of which has this number
abbrev pub AreChainsOf : ℕ → List (List Place) → List Chain → Type 0
AreChainsOf arc [] ks = ks ≡ []
AreChainsOf arc (ps ∷ pss) ks = (here : List Chain) × (later : List Chain) × (ks ≡ here ++ later)
    × IsListCutInto (vertices_from arc 0 ps) here × AreChainsOf (suc arc) pss later

-- ---- the arcs of thinned chains

-- the second list is what is left of the first where vertices but the last are dropped
abbrev pub IsKept : List Vertex → List Vertex → Type 0
IsKept [] [] = Unit {0}
IsKept [] (u ∷ us) = ⊥
IsKept (w ∷ ws) [] = ⊥
IsKept (w ∷ ws) (u ∷ us) = ((w ≡ u) × IsKept ws us) ⊎ IsKept ws (u ∷ us)

-- each chain of the second list is what is left of the chain with its number
abbrev pub AreKept : List Chain → List Chain → Type 0
AreKept [] [] = Unit {0}
AreKept [] (l ∷ ls) = ⊥
AreKept (k ∷ ks) [] = ⊥
AreKept (k ∷ ks) (l ∷ ls) = (l.first ≡ k.first) × IsKept k.rest l.rest × AreKept ks ls

-- the chains at the head of the list that are of the arc, and those after them
abbrev pub chains_of_arc : ℕ → List Chain → List Chain
chains_of_arc arc [] = []
chains_of_arc arc (k ∷ ks) = elim (nat_eq k.first.arc arc) [ true ↦ k ∷ chains_of_arc arc ks | false ↦ [] ]

abbrev pub chains_past_arc : ℕ → List Chain → List Chain
chains_past_arc arc [] = []
chains_past_arc arc (k ∷ ks) = elim (nat_eq k.first.arc arc) [ true ↦ chains_past_arc arc ks | false ↦ k ∷ ks ]

abbrev pub joined_rests : List Chain → List Vertex
joined_rests [] = []
joined_rests (k ∷ ks) = k.rest ++ joined_rests ks

-- the arc that these chains make up, or the arc as read where there are none
abbrev pub joined_arc : List Place → List Chain → List Place
joined_arc ps [] = ps
joined_arc ps (k ∷ ks) = k.first.place ∷ places (joined_rests (k ∷ ks))

-- the arcs that the chains make up, for the arcs as read, the first of which has this number
abbrev pub arcs_now : ℕ → List (List Place) → List Chain → List (List Place)
arcs_now arc [] ks = []
arcs_now arc (ps ∷ pss) ks = joined_arc ps (chains_of_arc arc ks) ∷ arcs_now (suc arc) pss (chains_past_arc arc ks)

abbrev pub map_now : Map → List Chain → Map
map_now m ks = record m { arcs = arcs_now 0 m.arcs ks }

-- whether the arc of these places is crossed from p an odd number of times
abbrev pub is_list_crossed_oddly : Place → List Place → Bool
is_list_crossed_oddly p [] = false
is_list_crossed_oddly p (q ∷ qs) = is_odd (count_edges (is_crossed p) q qs)

-- whether the edges of the arcs with these numbers, each as often as it is named, are crossed from p an odd number of times in sum
abbrev pub is_inside_of : Place → List (List Place) → List ℕ → Bool
is_inside_of p arcs [] = false
is_inside_of p arcs (arc ∷ more) = differ (is_list_crossed_oddly p (get_or arcs arc [])) (is_inside_of p arcs more)

-- p is in the polygon with this number
abbrev pub is_inside : Place → Map → ℕ → Bool
is_inside p m polygon = is_inside_of p m.arcs (get_or m.polygons polygon [])
