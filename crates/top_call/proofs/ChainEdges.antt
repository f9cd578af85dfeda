-- How many edges the chains of a map have in sum: for each arc one less than it has positions.
use Rattle.std.proofs.Common.{◌≡◌, ℕ, suc, ◌+◌, ◌<◌, List, [], ◌∷◌, All, length, sum_by, refl, sym, ap, arith, length-append}
use Rattle.std.proofs.lemmas.List.Elements.{All-head, All-tail}
use Rattle.std.proofs.lemmas.List.Sums.{sum_by-cons, sum_by-append}
use Rattle.grid_exact.specs.Geometry.{Place}
use Rattle.grid_exact.specs.Walks.{end_of}
use Rattle.arc_map.specs.Map.{IsArc}
use Rattle.arc_map.specs.Vertices.{Vertex}
use Rattle.arc_map.specs.Chains.{Chain}
use Rattle.arc_map.specs.Arcs.{vertices_from, IsCutInto, IsListCutInto, AreChainsOf}
use Rattle.arc_map.proofs.Cutting.{length-vertices_from}
use Rattle.arc_map.proofs.Finishing.{has_position}

abbrev pub edge_count : Chain → ℕ
edge_count k = length k.rest

edges_of_walk : (v : Vertex) (ws : List Vertex) (ks : List Chain) → IsCutInto v ws ks → sum_by edge_count ks ≡ length ws
edges_of_walk v ws [] cut = sym (ap length cut)
edges_of_walk v ws (k ∷ ks) cut =
    omega (arith, sum_by-cons edge_count k ks, edges_of_walk (end_of v k.rest) cut.2 ks cut.4, ap length cut.3, length-append k.rest cut.2)

edges_of_list : (vs : List Vertex) (ks : List Chain) → 0 < length vs → IsListCutInto vs ks → sum_by edge_count ks + 1 ≡ length vs
edges_of_list [] ks some cut = absurd (omega (arith, some))
edges_of_list (v ∷ vs) ks some cut = omega (arith, edges_of_walk v vs ks cut)

pub edges_of_arcs : (arc : ℕ) (pss : List (List Place)) (ks : List Chain) → All IsArc pss → AreChainsOf arc pss ks
    → sum_by edge_count ks + length pss ≡ sum_by length pss
edges_of_arcs arc [] ks are cut = omega (arith, ap (sum_by edge_count) cut)
edges_of_arcs arc (ps ∷ pss) ks are cut =
    let some = has_position ps (All-head IsArc ps pss are) in
    let size = length-vertices_from arc 0 ps in
    let here = edges_of_list (vertices_from arc 0 ps) cut.0 (omega (arith, some, size)) cut.3 in
    let later = edges_of_arcs (suc arc) pss cut.1 (All-tail IsArc ps pss are) cut.4 in
    omega (arith, size, here, later, ap (sum_by edge_count) cut.2, sum_by-append edge_count cut.0 cut.1, sum_by-cons length ps pss)
