-- Arcs by their references: pos k is arc k forwards, and negsuc k, which is -1 - k, is arc k backwards.
use Rattle.std.specs.Prelude.{◌≡◌, ◌<◌, ℕ, ℤ, pos, negsuc, List, [], ◌∷◌, ◌++◌, drop, get_or, length, map, reverse, take}
use Rattle.std.specs.List.{flat_map}
use Rattle.grid_exact.specs.Geometry.{Place}
use Rattle.grid_exact.specs.Walks.{end_of}
use Rattle.topo_build.specs.Cyclic.{closed_from}

abbrev pub arc_of : ℤ → ℕ
arc_of (pos arc) = arc
arc_of (negsuc arc) = arc

-- the positions of the arc in the direction of the reference
abbrev pub walk_of : List (List Place) → ℤ → List Place
walk_of arcs (pos arc) = get_or arcs arc []
walk_of arcs (negsuc arc) = reverse (get_or arcs arc [])

-- from v the references, one after another, lead along ws: each begins where the one before ends
abbrev pub Leads : List (List Place) → Place → List ℤ → List Place → Type 0
Leads arcs v [] ws = ws ≡ []
Leads arcs v (r ∷ rs) ws = (here : List Place) × (rest : List Place) × (ws ≡ here ++ rest) × (walk_of arcs r ≡ v ∷ here)
    × Leads arcs (end_of v here) rs rest

-- put together the references are the cyclic list in its own direction; it may begin elsewhere. One position is an arc of its own.
pub data IsPutTogether (arcs : List (List Place)) (ring : List Place) (refs : List ℤ) : Type 0 where
  Single : (p : Place) (r : ℤ) → ring ≡ p ∷ [] → refs ≡ r ∷ [] → walk_of arcs r ≡ p ∷ [] → IsPutTogether arcs ring refs
  Round : (at : ℕ) (v : Place) (ws : List Place) → 1 < length ring → at < length ring → closed_from ring at ≡ v ∷ ws → Leads arcs v refs ws
      → IsPutTogether arcs ring refs

-- the numbers of the arcs that the rings of each polygon name, where each polygon has so many of the rings, in order
abbrev pub polygons_of : List ℕ → List (List ℤ) → List (List ℕ)
polygons_of [] rings = []
polygons_of (count ∷ counts) rings = flat_map (map arc_of) (take count rings) ∷ polygons_of counts (drop count rings)
