-- An obstacle of a clear chain is on no edge of it that spans it, and at no vertex within the chain.
use Rattle.std.proofs.Common.{◌≡◌, ◌⊎◌, inl, inr, ℕ, zero, suc, ◌+◌, ◌<◌, List, [], ◌∷◌, length, get_or, refl, sym, ◌∙◌, subst, arith}
use Rattle.std.specs.Prelude.{Contains, All}
use Rattle.std.proofs.lemmas.List.{length-map, get_or-map}
use Rattle.grid_exact.specs.Geometry.{Place, IsOnSegment}
use Rattle.grid_exact.specs.Runs.{IsEdgeOf}
use Rattle.grid_exact.proofs.Commons.{end_is_on}
use Rattle.grid_exact.proofs.Orders.{denied}
use Rattle.arc_map.specs.Vertices.{Vertex, MayJoin, MeetLawfully}
use Rattle.arc_map.specs.Vertices.MayJoin.{One, BothEnd}
use Rattle.arc_map.specs.Clear.{IsWithinChain, EachButLast}
use Rattle.arc_map.specs.Chains.{Chain, chain_at, chain_places, no_chain, IsOtherEdge, AreChains, IsClearIn}
use Rattle.arc_map.specs.Paths.{vertices_of}
use Rattle.monotone_split.proofs.WalkParts.{edge_has}
use Rattle.monotone_split.proofs.Maps.{lawful_swapped}
use Rattle.monotone_split.proofs.Junctions.{join_at_end_and_start, join_at_ends, start_on_other, end_on_other}
use Rattle.side_wedge.specs.Obstacles.{IsObstacle}
use Rattle.side_wedge.specs.Obstacles.IsObstacle.{Town, Vertex as OfOther}

-- ---- edges by the numbers of their vertices

pub edge_numbered : {A : Type 0} (v : A) (ws : List A) (s : ℕ) (d : A) → s < length ws → IsEdgeOf v ws (get_or (v ∷ ws) s d) (get_or ws s d)
edge_numbered v [] s d h = absurd (omega arith)
edge_numbered v (w ∷ ws) zero d h = inl (refl, refl)
edge_numbered v (w ∷ ws) (suc s) d h = inr (edge_numbered w ws s d (omega arith))

but_last_at : (P : Vertex → Type 0) (ws : List Vertex) (n : ℕ) (d : Vertex) → EachButLast P ws → n + 1 < length ws → P (get_or ws n d)
but_last_at P [] n d h within = absurd (omega arith)
but_last_at P (w ∷ []) n d h within = absurd (omega arith)
but_last_at P (w ∷ x ∷ xs) zero d h within = h.0
but_last_at P (w ∷ x ∷ xs) (suc n) d h within = but_last_at P (x ∷ xs) n d h.1 (omega arith)

-- ---- vertices as ends of edges

-- p is at an end of the edge cd
pub data IsAtEnd (c d : Vertex) (p : Place) : Type 0 where
  AtStart : c.place ≡ p → IsAtEnd c d p
  AtEnd : d.place ≡ p → IsAtEnd c d p

-- an edge of the chain with p at an end
pub record EndOf (chain : Chain) (p : Place) : Type 0 where
  pub start : Vertex
  pub end : Vertex
  pub edge : IsEdgeOf chain.first chain.rest start end
  pub at : IsAtEnd start end p

end_by_number : (chain : Chain) (n : ℕ) (p : Place) → 0 < length chain.rest → n < length chain.rest + 1
    → (get_or (vertices_of chain) n chain.first).place ≡ p → EndOf chain p
end_by_number chain zero p some within e = record {
  start = chain.first;
  end = get_or chain.rest 0 chain.first;
  edge =
      edge_numbered chain.first chain.rest 0 chain.first some;
  at = AtStart e;
}
end_by_number chain (suc n) p some within e = record {
  start = get_or (vertices_of chain) n chain.first;
  end =
      get_or chain.rest n chain.first;
  edge = edge_numbered chain.first chain.rest n chain.first (omega arith);
  at = AtEnd e;
}

-- a vertex of a chain that has an edge is at an end of one
pub end_of_vertex : (chain : Chain) (p : Place) → 0 < length chain.rest → Contains (chain_places chain) p → EndOf chain p
end_of_vertex chain p some has =
    let count = length-map chain.rest (λ v. v.place) in
    let within = has.1 in
    let n : has.0 < length (vertices_of chain) = omega (arith, count, within) in
    let same : get_or (chain_places chain) has.0 p ≡ (get_or (vertices_of chain) has.0 chain.first).place =
    get_or-map (λ v. v.place) (vertices_of chain) has.0 chain.first p n in
    end_by_number chain has.0 p some (omega (arith, count, within)) (sym same ∙ has.2)

-- ---- on an edge

on_edge_at_end : (a b c d : Vertex) (p : Place) → MeetLawfully a b c d → IsAtEnd c d p → IsOnSegment a.place b.place p
    → (p ≡ a.place) ⊎ (p ≡ b.place)
on_edge_at_end a b c d p lawful (AtStart e) on =
    elim (start_on_other c d a b (lawful_swapped a b c d lawful) (subst (λ (x : Place). IsOnSegment a.place b.place x) (sym e) on))
    [ inl f ↦ inl (sym e ∙ f) | inr f ↦ inr (sym e ∙ f) ]
on_edge_at_end a b c d p lawful (AtEnd e) on =
    elim (end_on_other c d a b (lawful_swapped a b c d lawful) (subst (λ (x : Place). IsOnSegment a.place b.place x) (sym e) on))
    [ inl f ↦ inl (sym e ∙ f) | inr f ↦ inr (sym e ∙ f) ]

-- an obstacle on an edge of a clear chain is at one of its ends
pub obstacle_on_edge : (chains : List Chain) (points : List Place) (k : ℕ) (p : Place) (a b : Vertex)
    → All (λ chain. 0 < length chain.rest) chains → IsClearIn chains points k → IsObstacle chains points k p
    → IsEdgeOf (chain_at chains k).first (chain_at chains k).rest a b → IsOnSegment a.place b.place p → (p ≡ a.place) ⊎ (p ≡ b.place)
obstacle_on_edge chains points k p a b edges clear (Town has) edge on =
    absurd (edge_has (λ x y. ¬ (IsOnSegment x.place y.place p)) (chain_at chains k).first (chain_at chains k).rest a b (clear.points p has)
    edge on)
obstacle_on_edge chains points k p a b edges clear (OfOther l within other has) edge on =
    let end = end_of_vertex (chain_at chains l) p (edges l no_chain within) has in
    let lawful = edge_has (λ x y. MeetLawfully x y end.start end.end) (chain_at chains k).first (chain_at chains k).rest a b
    (clear.others end.start end.end (record { chain = l; other = other; edge = end.edge })) edge in
    on_edge_at_end a b end.start end.end p lawful end.at on

-- ---- at a vertex within the chain

no_join : (IsEdge : Vertex → Vertex → Type 0) (b c d x : Vertex) → IsEdge c d → IsWithinChain IsEdge b → (x ≡ c) ⊎ (x ≡ d) → MayJoin b x → ⊥
no_join IsEdge b c d x edge within at (BothEnd e f) = denied b.is_end within.no_end e
no_join IsEdge b c d x edge within (inl at) (One e) = within.no_start_of c d edge (e ∙ at)
no_join IsEdge b c d x edge within (inr at) (One e) = within.no_end_of c d edge (e ∙ at)

vertex_at_end : (IsEdge : Vertex → Vertex → Type 0) (a b c d : Vertex) (p : Place) → IsEdge c d → IsWithinChain IsEdge b
    → MeetLawfully a b c d → IsAtEnd c d p → p ≡ b.place → ⊥
vertex_at_end IsEdge a b c d p edge within lawful (AtStart e) at =
    no_join IsEdge b c d c edge within (inl refl) (join_at_end_and_start a b c d lawful (sym (e ∙ at)))
vertex_at_end IsEdge a b c d p edge within lawful (AtEnd e) at =
    no_join IsEdge b c d d edge within (inr refl) (join_at_ends a b c d lawful (sym (e ∙ at)))

-- no obstacle is at a vertex within a clear chain
pub obstacle_at_vertex : (chains : List Chain) (points : List Place) (k n : ℕ) (p : Place) (d : Vertex) → AreChains chains
    → All (λ chain. 0 < length chain.rest) chains → IsClearIn chains points k → IsObstacle chains points k p
    → n + 1 < length (chain_at chains k).rest → p ≡ (get_or (chain_at chains k).rest n d).place → ⊥
obstacle_at_vertex chains points k n p d are edges clear (Town has) within at =
    let chain = chain_at chains k in
    let a = get_or (vertices_of (chain_at chains k)) n d in
    let b = get_or (chain_at chains k).rest n d in
    edge_has (λ x y. ¬ (IsOnSegment x.place y.place p)) (chain_at chains k).first (chain_at chains k).rest
    (get_or (vertices_of (chain_at chains k)) n d) (get_or (chain_at chains k).rest n d) (clear.points p has)
    (edge_numbered (chain_at chains k).first (chain_at chains k).rest n d (omega arith))
    (end_is_on (get_or (vertices_of (chain_at chains k)) n d).place (get_or (chain_at chains k).rest n d).place p at)
obstacle_at_vertex chains points k n p d are edges clear (OfOther l inside other has) within at =
    let a = get_or (vertices_of (chain_at chains k)) n d in
    let b = get_or (chain_at chains k).rest n d in
    let end = end_of_vertex (chain_at chains l) p (edges l no_chain inside) has in
    let is_other : IsOtherEdge chains k end.start end.end = record { chain = l; other = other; edge = end.edge } in
    let lawful = edge_has (λ x y. MeetLawfully x y end.start end.end) (chain_at chains k).first (chain_at chains k).rest a b
    (clear.others end.start end.end is_other) (edge_numbered (chain_at chains k).first (chain_at chains k).rest n d (omega arith)) in
    vertex_at_end (IsOtherEdge chains k) a b end.start end.end p is_other
    (but_last_at (IsWithinChain (IsOtherEdge chains k)) (chain_at chains k).rest n d (are.within k) within) lawful end.at at
