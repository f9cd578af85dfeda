-- Chains as the map read has them.
use Rattle.std.proofs.Common.{◌≡◌, ◌∙◌, ℕ, suc, ◌+◌, ◌-◌, ◌<◌, List, length, get_or, Contains, refl, ap, sym, subst, arith}
use Rattle.std.specs.List.{range_with_len}
use Rattle.std.proofs.lemmas.List.{length-map, get_or-map, get_or_default}
use Rattle.std.proofs.lemmas.List.FromFn.{length-range_with_len, get_or-map-range_with_len}
use Rattle.grid_exact.specs.Geometry.{Place}
use Rattle.arc_map.specs.Arranged.{nowhere}
use Rattle.arc_map.specs.Map.{Map}
use Rattle.arc_map.specs.Vertices.{Vertex}
use Rattle.arc_map.specs.Chains.{Chain, no_chain, chain_places}
use Rattle.arc_map.specs.Paths.{vertices_of, vertex_at}
use Rattle.arc_map.specs.Work.{Work, chain_in, vertex_in, work_of}
use Rattle.arc_map.specs.declared.refs.ChainRef.{ChainRef}
use Rattle.map_index.specs.MapIndex.{no_ref, IsAsRead}
use Rattle.map_index.proofs.Listed.{size}

-- at first each chain is as read
pub as_read_at_first : (m : Map) (refs : List ChainRef) (k : ℕ) → k < length refs → IsAsRead (work_of m refs) k
as_read_at_first m refs k below = get_or-map (chain_in m) refs k no_ref no_chain below

pub all_as_read : (m : Map) (refs : List ChainRef) (w : Work) → w ≡ work_of m refs → (k : ℕ) → k < length w.chains → IsAsRead w k
all_as_read m refs w is k below =
    let inside = subst (λ (v : Work). k < length v.chains) is below in
    subst (λ (v : Work). IsAsRead v k) (sym is) (as_read_at_first m refs k (omega (arith, inside, length-map refs (chain_in m))))

-- ---- the vertices of a chain as read

-- the number of a vertex in its arc
vertex_number : (m : Map) (r : ChainRef) (i : ℕ) → i < length (vertices_of (chain_in m r))
    → vertex_at (chain_in m r) i ≡ vertex_in m r.arc (r.«from» + i)
vertex_number m r i inside =
    let n = suc (r.to - r.«from») in
    let count : length (vertices_of (chain_in m r)) ≡ n = length-map (range_with_len r.«from» n) (vertex_in m r.arc)
    ∙ length-range_with_len r.«from» n in
    get_or-map-range_with_len (vertex_in m r.arc) r.«from» n i (r.«from» + i) (vertex_in m r.arc r.«from») (omega (arith, inside, count))
    refl

-- no two of them are one
pub vertices_differ : (m : Map) (r : ChainRef) (i j : ℕ) → i < length (vertices_of (chain_in m r)) → j < length (vertices_of (chain_in m r))
    → vertex_at (chain_in m r) i ≡ vertex_at (chain_in m r) j → i ≡ j
vertices_differ m r i j inside within same =
    let at : r.«from» + i ≡ r.«from» + j = ap (λ (v : Vertex). v.at) (sym (vertex_number m r i inside) ∙ same ∙ vertex_number m r j within)
    in
    omega arith

-- ---- vertices and their places

pub vertex_count : (c : Chain) → length (vertices_of c) ≡ size c
vertex_count c = sym (length-map (vertices_of c) (λ v. v.place))

pub place_of : (c : Chain) (i : ℕ) → i < length (vertices_of c) → get_or (chain_places c) i nowhere ≡ (vertex_at c i).place
place_of c i inside = get_or-map (λ v. v.place) (vertices_of c) i c.first nowhere inside

pub has_vertex : (c : Chain) (i : ℕ) → i < length (vertices_of c) → Contains (vertices_of c) (vertex_at c i)
has_vertex c i inside = (i, inside, get_or_default (vertices_of c) i (vertex_at c i) c.first inside)

pub has_place : (c : Chain) (v : Vertex) → Contains (vertices_of c) v → Contains (chain_places c) v.place
has_place c v has = (
  has.0,
  omega (arith, has.1, vertex_count c),
  get_or-map (λ u. u.place) (vertices_of c) has.0 v v.place has.1 ∙ ap (λ (u : Vertex). u.place) has.2,
)

-- the vertex that stands at a place of the chain
pub record HasVertexAt (c : Chain) (p : Place) : Type 0 where
  pub vertex : Vertex
  pub has : Contains (vertices_of c) vertex
  pub is : vertex.place ≡ p

pub vertex_of_place : (c : Chain) (p : Place) → Contains (chain_places c) p → HasVertexAt c p
vertex_of_place c p has =
    let inside : has.0 < length (vertices_of c) = omega (arith, has.1, vertex_count c) in
    record {
      vertex = vertex_at c has.0;
      has = has_vertex c has.0 inside;
      is = sym (get_or-map (λ v. v.place) (vertices_of c) has.0 c.first p inside) ∙ has.2;
    }
