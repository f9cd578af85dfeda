-- An edge whose ends both lie at vertices of a clear chain of another number is a chain of its own.
use Rattle.std.proofs.Common.{◌≡◌, inl, inr, List, [], ◌∷◌, sym, ap, subst}
use Rattle.grid_exact.specs.Walks.{EachEdge}
use Rattle.arc_map.specs.Vertices.{Vertex, MayJoin, MeetLawfully}
use Rattle.arc_map.specs.Vertices.MayJoin.{One, BothEnd}
use Rattle.grid_exact.specs.Runs.{IsEdgeOf}
use Rattle.grid_exact.proofs.Orders.{denied}
use Rattle.arc_map.specs.Clear.{IsWithinChain, EachButLast}
use Rattle.arc_map.specs.Chains.{chain_at, IsOtherEdge}
use Rattle.monotone_split.specs.Laws.{EndOfEdge, DoubleEdgeIsChain}
use Rattle.monotone_split.specs.Laws.EndOfEdge.{StartsAt, EndsAt}
use Rattle.monotone_split.proofs.Junctions.{join_at_starts, join_at_start_and_end, join_at_end_and_start, join_at_ends}
use Rattle.monotone_split.proofs.WalkParts.{edge_has}

-- a vertex that starts an edge of a list of vertices is not its last
start_has : (P : Vertex → Type 0) (w : Vertex) (ws : List Vertex) (c d : Vertex) → EachButLast P (w ∷ ws) → IsEdgeOf w ws c d → P c
start_has P w [] c d h e = absurd e
start_has P w (x ∷ xs) c d h (inl e) = subst P e.0 h.0
start_has P w (x ∷ xs) c d h (inr e) = start_has P x xs c d h.1 e

only_edge : (P : Vertex → Type 0) (v : Vertex) (ws : List Vertex) (c d : Vertex) → EachButLast P ws → IsEdgeOf v ws c d → ¬ (P c) → ¬ (P d)
    → ws ≡ d ∷ []
only_edge P v [] c d h e p q = absurd e
only_edge P v (w ∷ []) c d h (inl e) p q = ap (λ (x : Vertex). x ∷ []) e.1
only_edge P v (w ∷ []) c d h (inr e) p q = absurd e
only_edge P v (w ∷ x ∷ xs) c d h (inl e) p q = absurd (q (subst P e.1 h.0))
only_edge P v (w ∷ x ∷ xs) c d h (inr e) p q = absurd (p (start_has P w (x ∷ xs) c d h e))

-- an edge of chain k has an end x where c is, and may join it there: c is not within chain l
not_within : (IsEdge : Vertex → Vertex → Type 0) (v : Vertex) (ws : List Vertex) (x c : Vertex)
    → ((a b : Vertex) → IsEdgeOf v ws a b → IsEdge a b) → EndOfEdge v ws x → MayJoin x c → ¬ (IsWithinChain IsEdge c)
not_within IsEdge v ws x c other end (BothEnd e g) h = denied c.is_end h.no_end g
not_within IsEdge v ws x c other (StartsAt b edge) (One e) h = h.no_start_of x b (other x b edge) (sym e)
not_within IsEdge v ws x c other (EndsAt a edge) (One e) h = h.no_end_of a x (other a x edge) (sym e)

joins_start : (v : Vertex) (ws : List Vertex) (x c d : Vertex) → EachEdge (λ a b. MeetLawfully a b c d) v ws → EndOfEdge v ws x
    → x.place ≡ c.place → MayJoin x c
joins_start v ws x c d lawful (StartsAt b edge) e = join_at_starts x b c d (edge_has (λ a b. MeetLawfully a b c d) v ws x b lawful edge) e
joins_start v ws x c d lawful (EndsAt a edge) e = join_at_end_and_start a x c d
    (edge_has (λ a b. MeetLawfully a b c d) v ws a x lawful edge) e

joins_end : (v : Vertex) (ws : List Vertex) (x c d : Vertex) → EachEdge (λ a b. MeetLawfully a b c d) v ws → EndOfEdge v ws x
    → x.place ≡ d.place → MayJoin x d
joins_end v ws x c d lawful (StartsAt b edge) e = join_at_start_and_end x b c d
    (edge_has (λ a b. MeetLawfully a b c d) v ws x b lawful edge) e
joins_end v ws x c d lawful (EndsAt a edge) e = join_at_ends a x c d (edge_has (λ a b. MeetLawfully a b c d) v ws a x lawful edge) e

pub double_edge_is_chain : DoubleEdgeIsChain
double_edge_is_chain chains points k l c d x y are clear other edge at_x at_y xc yd =
    let lawful = clear.others c d (record { chain = l; other = other; edge = edge }) in
    let beside : (a b : Vertex) → IsEdgeOf (chain_at chains k).first (chain_at chains k).rest a b
    → IsOtherEdge chains l a b = (λ a b e. record { chain = k; other = λ f. other (sym f); edge = e }) in
    only_edge (IsWithinChain (IsOtherEdge chains l)) (chain_at chains l).first (chain_at chains l).rest c d (are.within l) edge
    (not_within (IsOtherEdge chains l) (chain_at chains k).first (chain_at chains k).rest x c beside at_x
    (joins_start (chain_at chains k).first (chain_at chains k).rest x c d lawful at_x xc))
    (not_within (IsOtherEdge chains l) (chain_at chains k).first (chain_at chains k).rest y d beside at_y
    (joins_end (chain_at chains k).first (chain_at chains k).rest y c d lawful at_y yd))
