-- The arcs that polygons name an odd number of times in sum.
use Rattle.std.specs.Prelude.{◌==◌, ◌&&◌, ℕ, Bool, nat_lt, List, [], filter, get_or, length}
use Rattle.std.specs.List.{flat_map, range_with_len}
use Rattle.arc_map.specs.Map.{Map}
use Rattle.arc_map.specs.Arranged.{arc_at}
use Rattle.face_parity.specs.Parities.{pass_oddly}

-- the numbers of the arcs that the polygons with these numbers name, each as often as it is named
abbrev pub named_arcs : Map → List ℕ → List ℕ
named_arcs m polygons = flat_map (λ k. get_or m.polygons k []) polygons

abbrev pub has_edge : Map → ℕ → Bool
has_edge m arc = nat_lt 1 (length (arc_at m arc))

-- whether the arc has an edge, and is an odd number of times among these
abbrev pub is_odd_arc : Map → List ℕ → ℕ → Bool
is_odd_arc m named arc = has_edge m arc && pass_oddly (λ k. k == arc) named

-- the arcs with an edge that the polygons name an odd number of times in sum, rising
abbrev pub odd_arcs : Map → List ℕ → List ℕ
odd_arcs m polygons = filter (is_odd_arc m (named_arcs m polygons)) (range_with_len 0 (length m.arcs))
