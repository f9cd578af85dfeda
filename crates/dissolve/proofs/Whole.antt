-- What follows for a border.
use Rattle.std.proofs.Common.{◌≡◌, ◌≢◌, ◌∙◌, ◌↔◌, ℕ, ◌<◌, List, [], All, AllPairs, Contains, get_or, length, sym}
use Rattle.std.specs.Prelude.{ℤ}
use Rattle.grid_exact.specs.Geometry.{Place}
use Rattle.arc_map.specs.Map.{Map, IsMap}
use Rattle.arc_map.specs.Arcs.{is_inside_of, is_list_crossed_oddly}
use Rattle.face_parity.proofs.Lowest.{inside-sum}
use Rattle.face_parity.proofs.Sums.{pass-permutation}
use Rattle.dissolve.specs.Odd.{named_arcs, is_odd_arc, odd_arcs}
use Rattle.dissolve.specs.Border.{IsBorder}
use Rattle.dissolve.specs.Closed.{IsClosed, arcs_used}
use Rattle.dissolve.proofs.Marks.{filter-once}
use Rattle.dissolve.proofs.Taking.{AreOnce}
use Rattle.dissolve.proofs.Touching.{odd-crossed}
use Rattle.dissolve.proofs.Using.{rings-closed, rings-used, used-odd, used-once}

odd-once : (m : Map) (polygons : List ℕ) → AreOnce (odd_arcs m polygons)
odd-once m polygons = filter-once (is_odd_arc m (named_arcs m polygons)) (length m.arcs)

pub border-closed : (m : Map) (polygons : List ℕ) (rings : List (List ℤ)) → IsBorder m polygons rings → All (IsClosed m) rings
border-closed m polygons rings is = rings-closed m (odd_arcs m polygons) rings is

pub border-used : (m : Map) (polygons : List ℕ) (rings : List (List ℤ)) → IsBorder m polygons rings → (k : ℕ) → Contains (arcs_used rings) k
    ↔ Contains (odd_arcs m polygons) k
border-used m polygons rings is = used-odd m (odd_arcs m polygons) rings (odd-once m polygons) is

pub border-once : (m : Map) (polygons : List ℕ) (rings : List (List ℤ)) → IsBorder m polygons rings
    → AllPairs (λ j k. j ≢ k) (arcs_used rings)
border-once m polygons rings is = used-once m (odd_arcs m polygons) rings (odd-once m polygons) is

pub border-crossed : (m : Map) (polygons : List ℕ) (rings : List (List ℤ)) → IsMap m → All (λ k. k < length m.polygons) polygons
    → IsBorder m polygons rings → (p : Place) → is_inside_of p m.arcs (arcs_used rings) ≡ is_inside_of p m.arcs (named_arcs m polygons)
border-crossed m polygons rings map_is known is p =
    inside-sum p m.arcs (arcs_used rings)
    ∙ pass-permutation (λ arc. is_list_crossed_oddly p (get_or m.arcs arc [])) (odd_arcs m polygons) (arcs_used rings)
    (rings-used m (odd_arcs m polygons) rings (odd-once m polygons) is)
    ∙ sym (inside-sum p m.arcs (odd_arcs m polygons))
    ∙ odd-crossed m polygons p map_is known
