-- What the rings of a border are: closed, and of arcs that are used once.
use Rattle.std.specs.Prelude.{◌≡◌, ℕ, ℤ, List, [], ◌∷◌, map}
use Rattle.std.specs.List.{flat_map}
use Rattle.grid_exact.specs.Walks as walks
use Rattle.arc_map.specs.Map.{Map}
use Rattle.dissolve.specs.Border.{arc_of, start_of, end_of}

-- in its direction each arc begins where the one before ends, and the first one where the last one ends
abbrev pub IsClosed : Map → List ℤ → Type 0
IsClosed m [] = ⊥
IsClosed m (r ∷ rs) = walks.EachEdge (λ s t. start_of m t ≡ end_of m s) r rs × (end_of m (walks.end_of r rs) ≡ start_of m r)

-- the arcs of the rings, in order
abbrev pub arcs_used : List (List ℤ) → List ℕ
arcs_used rings = flat_map (map arc_of) rings
