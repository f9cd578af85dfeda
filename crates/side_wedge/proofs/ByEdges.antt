-- The consistency part of a pair, by obstacles and by edges.
use Rattle.std.proofs.Common.{inl, inr, ℕ, suc, ◌<◌, List, [], ◌∷◌, length, ap, subst, arith}
use Rattle.std.specs.Prelude.{Contains, All}
use Rattle.grid_exact.specs.Geometry.{Place}
use Rattle.grid_exact.specs.Runs.{IsEdgeOf}
use Rattle.arc_map.specs.Vertices.{Vertex, places}
use Rattle.arc_map.specs.Allowed.{IsConsistent}
use Rattle.arc_map.specs.Chains.{Chain, chain_at, no_chain, IsOtherEdge}
use Rattle.arc_map.proofs.Chained.{chain_is_known}
use Rattle.side_wedge.specs.Obstacles.{IsObstacle}
use Rattle.side_wedge.specs.Obstacles.IsObstacle.{Town, Vertex as OfOther}
use Rattle.side_wedge.specs.Laws.{AreConsistent, ConsistencyByEdges}
use Rattle.side_wedge.proofs.ClearOf.{IsAtEnd, AtStart, AtEnd, end_of_vertex}

-- ---- ends of edges are vertices

has_later : (v : Place) (ws : List Place) (p : Place) → Contains ws p → Contains (v ∷ ws) p
has_later v ws p has = (suc has.0, omega (arith, has.1), has.2)

start_is_vertex : (v : Vertex) (ws : List Vertex) (c d : Vertex) → IsEdgeOf v ws c d → Contains (v.place ∷ places ws) c.place
start_is_vertex v [] c d e = absurd e
start_is_vertex v (w ∷ ws) c d (inl e) = (0, omega arith, ap (λ (x : Vertex). x.place) e.0)
start_is_vertex v (w ∷ ws) c d (inr e) = has_later v.place (w.place ∷ places ws) c.place (start_is_vertex w ws c d e)

end_is_vertex : (v : Vertex) (ws : List Vertex) (c d : Vertex) → IsEdgeOf v ws c d → Contains (v.place ∷ places ws) d.place
end_is_vertex v [] c d e = absurd e
end_is_vertex v (w ∷ ws) c d (inl e) = (1, omega arith, ap (λ (x : Vertex). x.place) e.1)
end_is_vertex v (w ∷ ws) c d (inr e) = has_later v.place (w.place ∷ places ws) d.place (end_is_vertex w ws c d e)

obstacle_at_start : (chains : List Chain) (points : List Place) (k : ℕ) (c d : Vertex) → IsOtherEdge chains k c d
    → IsObstacle chains points k c.place
obstacle_at_start chains points k c d h = OfOther h.chain (chain_is_known chains h.chain c d h.edge) h.other
    (start_is_vertex (chain_at chains h.chain).first (chain_at chains h.chain).rest c d h.edge)

obstacle_at_end : (chains : List Chain) (points : List Place) (k : ℕ) (c d : Vertex) → IsOtherEdge chains k c d
    → IsObstacle chains points k d.place
obstacle_at_end chains points k c d h = OfOther h.chain (chain_is_known chains h.chain c d h.edge) h.other
    (end_is_vertex (chain_at chains h.chain).first (chain_at chains h.chain).rest c d h.edge)

-- ---- both ways

-- what the parts say of an obstacle
by_parts : (chains : List Chain) (points : List Place) (k : ℕ) (v : Vertex) (skipped : List Vertex) (w : Vertex) (p : Place)
    → All (λ chain. 0 < length chain.rest) chains → AreConsistent (IsOtherEdge chains k) (Contains points) v skipped w
    → IsObstacle chains points k p → IsConsistent v.place w.place (places skipped) p
by_parts chains points k v skipped w p edges parts (Town has) = parts.points p has
by_parts chains points k v skipped w p edges parts (OfOther l within other has) =
    let end = end_of_vertex (chain_at chains l) p (edges l no_chain within) has in
    let is_other : IsOtherEdge chains k end.start end.end = record { chain = l; other = other; edge = end.edge } in
    at_end end.start end.end is_other end.at
  where
    at_end : (c d : Vertex) → IsOtherEdge chains k c d → IsAtEnd c d p → IsConsistent v.place w.place (places skipped) p
    at_end c d edge (AtStart e) = subst (IsConsistent v.place w.place (places skipped)) e (parts.starts c d edge)
    at_end c d edge (AtEnd e) = subst (IsConsistent v.place w.place (places skipped)) e (parts.ends c d edge)

pub consistency_by_edges_lem : ConsistencyByEdges
consistency_by_edges_lem chains points k i j edges = (
  λ h. record {
    points = λ p has. h p (Town has);
    starts = λ c d edge. h c.place (obstacle_at_start chains points k c d edge);
    ends = λ c d edge. h d.place (obstacle_at_end chains points k c d edge);
  },
  λ parts p obstacle. by_parts chains points k _ _ _ p edges parts obstacle,
)
