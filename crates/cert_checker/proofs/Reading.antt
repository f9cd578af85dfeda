-- The chains of a map as read.
use Rattle.std.proofs.Common.{◌≡◌, ◌∙◌, ◌+◌, ◌-◌, ◌<◌, ℕ, length, get_or, sym, ap, subst, refl, arith}
use Rattle.std.specs.Prelude.{All}
use Rattle.std.specs.List.{range_with_len}
use Rattle.std.proofs.lemmas.List.{get_or-map, length-map}
use Rattle.std.proofs.lemmas.List.FromFn.{get_or-map-range_with_len, length-range_with_len}
use Rattle.std.proofs.lemmas.List.Elements.{All-cons, All-from_get_or}
use Rattle.grid_exact.specs.Geometry.{Place}
use Rattle.arc_map.specs.Arranged.{arc_at, nowhere, position_at}
use Rattle.arc_map.specs.Chains.{chain_places}
use Rattle.arc_map.specs.Map.{Map}
use Rattle.arc_map.specs.Vertices.{places}
use Rattle.arc_map.specs.Work.{LiesInArc, chain_in, vertex_in}
use Rattle.arc_map.specs.declared.refs.ChainRef.{ChainRef}

rest_count : (m : Map) (r : ChainRef) → length (chain_in m r).rest ≡ r.to - r.«from»
rest_count m r = length-map (range_with_len (r.«from» + 1) (r.to - r.«from»)) (vertex_in m r.arc)
    ∙ length-range_with_len (r.«from» + 1) (r.to - r.«from»)

-- a property of all positions of the arcs is one of the vertices of a chain that lies in its arc
pub read_places : (P : Place → Type 0) (m : Map) (r : ChainRef) → LiesInArc m r → All (All P) m.arcs → All P (chain_places (chain_in m r))
read_places P m r lies all =
    All-cons P (position_at m r.arc r.«from») (places (chain_in m r).rest) (at r.«from» (omega (arith, lies.edge, lies.within)))
    (All-from_get_or P (places (chain_in m r).rest) nowhere later)
  where
    at : (n : ℕ) → n < length (arc_at m r.arc) → P (position_at m r.arc n)
    at n within = all r.arc _ lies.arc n nowhere within

    later : (n : ℕ) → n < length (places (chain_in m r).rest) → P (get_or (places (chain_in m r).rest) n nowhere)
    later n within =
        let known : n < length (chain_in m r).rest = omega (arith, within, length-map (chain_in m r).rest (λ v. v.place)) in
        let inside : n < r.to - r.«from» = omega (arith, known, rest_count m r) in
        subst P
        (sym (get_or-map (λ v. v.place) (chain_in m r).rest n (vertex_in m r.arc 0) nowhere known
        ∙ ap (λ v. v.place) (get_or-map-range_with_len (vertex_in m r.arc) (r.«from» + 1) (r.to - r.«from») n (r.«from» + 1 + n)
        (vertex_in m r.arc 0) inside refl)))
        (at (r.«from» + 1 + n) (omega (arith, inside, lies.within)))
