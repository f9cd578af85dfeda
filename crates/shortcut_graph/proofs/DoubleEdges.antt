-- An edge of another chain between two vertices of a clear chain joins the ends of that chain, and is all of its own.
use Rattle.std.proofs.Common.{◌≡◌, inl, inr, false, IsTrue, ℕ, zero, suc, ◌<◌, ◌≤◌, List, [], ◌∷◌, length, get_or, refl, sym, ap, subst}
use Rattle.std.proofs.Common.{◌∙◌, arith}
use Rattle.std.proofs.lemmas.Bool.{cases_lt}
use Rattle.std.proofs.lemmas.List.{get_or_past}
use Rattle.grid_exact.specs.Geometry.{Place}
use Rattle.grid_exact.specs.Runs.{IsEdgeOf}
use Rattle.grid_exact.specs.Segments.{SameEnds}
use Rattle.arc_map.specs.Vertices.{Vertex, places, MayJoin, MeetLawfully}
use Rattle.arc_map.specs.Vertices.MayJoin.{One, BothEnd}
use Rattle.arc_map.specs.Clear.{IsWithinChain}
use Rattle.arc_map.specs.Chains.{Chain, no_chain, chain_at, chain_places, AreChains, IsClearIn, IsOtherEdge}
use Rattle.arc_map.specs.Paths.{vertex_at}
use Rattle.arc_map.proofs.Chained.{chain_is_known}
use Rattle.monotone_split.proofs.Doubles.{double_edge_is_chain}
use Rattle.monotone_split.proofs.Junctions.{join_at_starts, join_at_start_and_end}
use Rattle.monotone_split.proofs.WalkParts.{edge_has}
use Rattle.side_wedge.proofs.ClearOf.{edge_numbered}
use Rattle.shortcut_graph.specs.Doubles.{HasDoubleEdge, AreEndsOf, IsDoubled}
use Rattle.shortcut_graph.proofs.Numbers.{but_last_at, end_at}

not_both : (v : Vertex) → v.is_end ≡ false → IsTrue v.is_end → ⊥
not_both v e h = cc

no_join : (IsEdge : Vertex → Vertex → Type 0) (x c d : Vertex) → IsWithinChain IsEdge x → IsEdge c d → (MayJoin x c → ⊥) × (MayJoin x d → ⊥)
no_join IsEdge x c d h edge = (joins c (h.no_start_of c d edge), joins d (h.no_end_of c d edge))
  where
    joins : (y : Vertex) → ¬ (x ≡ y) → MayJoin x y → ⊥
    joins y other (One e) = other e
    joins y other (BothEnd e g) = not_both x h.no_end e

-- a vertex within a clear chain is not where an end of an edge of another chain is
inner_apart : (chains : List Chain) (points : List Place) (k i : ℕ) (c d : Vertex) → AreChains chains → IsClearIn chains points k
    → IsOtherEdge chains k c d → 0 < i → i < length (chain_at chains k).rest
    → ((vertex_at (chain_at chains k) i).place ≡ c.place → ⊥) × ((vertex_at (chain_at chains k) i).place ≡ d.place → ⊥)
inner_apart chains points k zero c d are clear other low high = absurd (omega arith)
inner_apart chains points k (suc i) c d are clear other low high =
    let chain = chain_at chains k in
    let x = vertex_at chain (suc i) in
    let y = get_or chain.rest (suc i) chain.first in
    let apart = no_join (IsOtherEdge chains k) x c d (but_last_at (IsWithinChain (IsOtherEdge chains k)) chain.rest i chain.first
    (are.within k) high) other in
    let lawful = edge_has (λ a b. MeetLawfully a b c d) chain.first chain.rest x y (clear.others c d other)
    (edge_numbered chain.first chain.rest (suc i) chain.first high) in
    (λ e. apart.0 (join_at_starts x y c d lawful e), λ e. apart.1 (join_at_start_and_end x y c d lawful e))

pub only_at_ends : (chains : List Chain) (points : List Place) (k i j : ℕ) → AreChains chains → IsClearIn chains points k → i < j
    → j ≤ length (chain_at chains k).rest → HasDoubleEdge chains k i j → (i ≡ 0) × (j ≡ length (chain_at chains k).rest)
only_at_ends chains points k i j are clear ij jm double = (
  elim (cases_lt 0 i) [
    | inr low ↦ omega arith
    | inl high ↦ let apart = inner_apart chains points k i double.start double.end are clear double.edge high (omega arith) in
        elim double.same [ inl e ↦ absurd (apart.0 e.0) | inr e ↦ absurd (apart.1 e.0) ]
  ],
  elim (cases_lt j (length (chain_at chains k).rest)) [
    | inr high ↦ omega arith
    | inl low ↦ let apart = inner_apart chains points k j double.start double.end are clear double.edge (omega arith) low in
        elim double.same [ inl e ↦ absurd (apart.1 e.1) | inr e ↦ absurd (apart.0 e.1) ]
  ],
)

-- ---- the chain of a double edge

one_edge : (k : Chain) (c d : Vertex) → IsEdgeOf k.first k.rest c d → k.rest ≡ d ∷ [] → chain_places k ≡ c.place ∷ d.place ∷ []
one_edge k c d edge only =
    let starts : k.first ≡ c = elim (subst (λ (ws : List Vertex). IsEdgeOf k.first ws c d) only edge) [ inl e ↦ e.0 | inr e ↦ absurd e ] in
    ap (λ (v : Vertex). v.place ∷ places k.rest) starts ∙ ap (λ (ws : List Vertex). c.place ∷ places ws) only

ends_of : (a b c d : Place) (ps : List Place) → ps ≡ c ∷ d ∷ [] → SameEnds a b c d → AreEndsOf a b ps
ends_of a b c d ps e (inl s) = inl (e ∙ ap (λ (p : Place). p ∷ d ∷ []) (sym s.0) ∙ ap (λ (q : Place). a ∷ q ∷ []) (sym s.1))
ends_of a b c d ps e (inr s) = inr (e ∙ ap (λ (p : Place). p ∷ d ∷ []) (sym s.1) ∙ ap (λ (q : Place). b ∷ q ∷ []) (sym s.0))

whole_chain : (chains : List Chain) (points : List Place) (k i j : ℕ) → AreChains chains → IsClearIn chains points k → i < j
    → j ≤ length (chain_at chains k).rest → (double : HasDoubleEdge chains k i j)
    → (chain_at chains double.edge.chain).rest ≡ double.end ∷ []
whole_chain chains points k i j are clear ij jm double =
    let chain = chain_at chains k in
    let x = vertex_at chain i in
    let y = vertex_at chain j in
    let at_x = end_at chain.first chain.rest i chain.first (omega arith) (omega arith) in
    let at_y = end_at chain.first chain.rest j chain.first (omega arith) jm in
    let l = double.edge.chain in
    elim double.same [
      | inl e ↦ double_edge_is_chain chains points k l double.start double.end x y are clear double.edge.other double.edge.edge at_x at_y
          e.0 e.1
      | inr e ↦ double_edge_is_chain chains points k l double.start double.end y x are clear double.edge.other double.edge.edge at_y at_x
          e.1 e.0
    ]

pub doubled : (chains : List Chain) (points : List Place) (k : ℕ) → AreChains chains → IsClearIn chains points k
    → 0 < length (chain_at chains k).rest → HasDoubleEdge chains k 0 (length (chain_at chains k).rest) → IsDoubled chains k
doubled chains points k are clear some double =
    let chain = chain_at chains k in
    let only = whole_chain chains points k 0 (length chain.rest) are clear some (omega arith) double in
    let l = double.edge.chain in
    record {
      chain = l;
      within = chain_is_known chains l double.start double.end double.edge.edge;
      twin = record {
        other = double.edge.other;
        edge = ends_of (vertex_at chain 0).place (vertex_at chain (length chain.rest)).place double.start.place double.end.place
            (chain_places (chain_at chains l)) (one_edge (chain_at chains l) double.start double.end double.edge.edge only) double.same;
      };
    }

-- ---- back from the chain to the edge

record EdgeAt (k : Chain) (a b : Place) : Type 0 where
  start : Vertex
  end : Vertex
  edge : IsEdgeOf k.first k.rest start end
  from_a : start.place ≡ a
  to_b : end.place ≡ b

edge_between : (k : Chain) (v : Vertex) (ws : List Vertex) (a b : Place) → k.first ≡ v → k.rest ≡ ws → v.place ∷ places ws ≡ a ∷ b ∷ []
    → EdgeAt k a b
edge_between k v [] a b first rest e = absurd (cc)
edge_between k v (d ∷ []) a b first rest e = record {
  start = v;
  end = d;
  edge =
      subst (λ (ws : List Vertex). IsEdgeOf k.first ws v d) (sym rest) (inl (first, refl));
  from_a = cc;
  to_b = cc;
}
edge_between k v (d ∷ x ∷ ws) a b first rest e = absurd (cc)

pub double_edge : (chains : List Chain) (k : ℕ) → IsDoubled chains k → HasDoubleEdge chains k 0 (length (chain_at chains k).rest)
double_edge chains k double =
    let chain = chain_at chains k in
    let other = chain_at chains double.chain in
    let a = (vertex_at chain 0).place in
    let b = (vertex_at chain (length chain.rest)).place in
    elim double.twin.edge [
      | inl e ↦
          let edge = edge_between other other.first other.rest a b refl refl e in
          record {
            start = edge.start;
            end = edge.end;
            edge = record { chain = double.chain; other = double.twin.other; edge = edge.edge };
            same = inl (sym edge.from_a, sym edge.to_b);
          }
      | inr e ↦
          let edge = edge_between other other.first other.rest b a refl refl e in
          record {
            start = edge.start;
            end = edge.end;
            edge = record { chain = double.chain; other = double.twin.other; edge = edge.edge };
            same = inr (sym edge.to_b, sym edge.from_a);
          }
    ]
