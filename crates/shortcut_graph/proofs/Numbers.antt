-- The vertices and edges of a chain by their numbers.
use Rattle.std.proofs.Common.{◌≡◌, ℕ, zero, suc, ◌-◌, ◌<◌, ◌≤◌, inl, inr, List, [], ◌∷◌, length, get_or, refl, ap, ◌∙◌, arith}
use Rattle.std.proofs.lemmas.List.{get_or-map, get_or_read, length-map}
use Rattle.grid_exact.specs.Geometry.{Place}
use Rattle.grid_exact.specs.Runs.{IsEdgeOf}
use Rattle.arc_map.specs.Vertices.{Vertex}
use Rattle.arc_map.specs.Clear.{EachButLast}
use Rattle.arc_map.specs.Chains.{Chain, chain_places}
use Rattle.arc_map.specs.Paths.{vertices_of, vertex_at}
use Rattle.arc_map.specs.Arranged.{nowhere}
use Rattle.monotone_split.specs.Laws.{EndOfEdge}
use Rattle.monotone_split.specs.Laws.EndOfEdge.{StartsAt, EndsAt}
use Rattle.side_wedge.proofs.ClearOf.{edge_numbered}

-- the places of a chain are one more than its vertices after the first
pub length-chain_places : (c : Chain) → length (chain_places c) ≡ suc (length c.rest)
length-chain_places c = length-map (vertices_of c) (λ (v : Vertex). v.place)

pub place-number : (c : Chain) (i : ℕ) → i ≤ length c.rest → get_or (chain_places c) i nowhere ≡ (vertex_at c i).place
place-number c i h = get_or-map (λ (v : Vertex). v.place) (vertices_of c) i c.first nowhere (omega arith)

-- what is read at the ends of the list of a chain's places

pub first_read : (c : Chain) (ps : List Place) (p : Place) → ps ≡ chain_places c → p ≡ get_or ps 0 p → p ≡ (vertex_at c 0).place
first_read c ps p e read = read ∙ ap (λ (qs : List Place). get_or qs 0 p) e

pub last_read : (c : Chain) (ps : List Place) (p : Place) → ps ≡ chain_places c → p ≡ get_or ps (length ps - 1) p
    → p ≡ (vertex_at c (length c.rest)).place
last_read c ps p e read =
    let many : length ps ≡ suc (length c.rest) = ap length e ∙ length-chain_places c in
    let last : length ps - 1 ≡ length c.rest = omega arith in
    get_or_read ps (length ps - 1) p (omega arith) read nowhere
    ∙ ap (λ (n : ℕ). get_or ps n nowhere) last
    ∙ ap (λ (qs : List Place). get_or qs (length c.rest) nowhere) e
    ∙ place-number c (length c.rest) (omega arith)

pub but_last_at : (P : Vertex → Type 0) (ws : List Vertex) (i : ℕ) (d : Vertex) → EachButLast P ws → suc i < length ws → P (get_or ws i d)
but_last_at P [] i d each h = absurd (omega arith)
but_last_at P (v ∷ []) i d each h = absurd (omega arith)
but_last_at P (v ∷ w ∷ ws) zero d each h = each.0
but_last_at P (v ∷ w ∷ ws) (suc i) d each h = but_last_at P (w ∷ ws) i d each.1 (omega arith)

-- each vertex of a walk with an edge is an end of one
pub end_at : (v : Vertex) (ws : List Vertex) (i : ℕ) (d : Vertex) → 0 < length ws → i ≤ length ws → EndOfEdge v ws (get_or (v ∷ ws) i d)
end_at v ws zero d some h = StartsAt (get_or ws 0 d) (edge_numbered v ws 0 d some)
end_at v ws (suc i) d some h = EndsAt (get_or (v ∷ ws) i d) (edge_numbered v ws i d (omega arith))
