-- Each edge of the rings stands in one arc, once.
use Rattle.std.proofs.Common.{◌≡◌, ◌⊎◌, ◌∙◌, ◌<◌, ℕ, ℤ, zero, suc, pos, negsuc, List, [], ◌∷◌, ◌++◌, All, Contains, get_or, length, reverse}
use Rattle.std.proofs.Common.{take, ap, inl, inr, refl, subst, sym, arith}
use Rattle.std.specs.List.{AllZip}
use Rattle.std.proofs.lemmas.Bool.{cases_lt}
use Rattle.std.proofs.lemmas.List.{get_or_past}
use Rattle.std.proofs.lemmas.List.Elements.{All-append, All-contains, All-get_or, All-head, All-nil, All-tail, All-weaker}
use Rattle.std.proofs.lemmas.List.Elements.{Contains-append_left, Contains-append_right}
use Rattle.grid_exact.specs.Geometry.{Place}
use Rattle.grid_exact.specs.Segments.{SameEnds}
use Rattle.grid_exact.specs.Walks.{end_of}
use Rattle.arc_map.specs.Arcs.{edges_of_arcs, edges_of_list, vertices_from}
use Rattle.arc_map.specs.Edges.{Edge, EachOf, EachTwo}
use Rattle.arc_map.specs.Map.{IsArc}
use Rattle.topo_build.specs.Clean.{HasEachEdgeOnce, IsEdgeBetween}
use Rattle.topo_build.specs.Cyclic.{closed_from}
use Rattle.topo_build.specs.Found.{AreNext, IsAlong}
use Rattle.topo_build.specs.Junctions.{Turn, turns_of, turns_round}
use Rattle.topo_build.specs.References.{IsPutTogether, Leads, arc_of, walk_of}
use Rattle.topo_build.specs.References.IsPutTogether.{Single, Round}
use Rattle.topo_build.proofs.Facts.{HasRingEdges, IsRingEdge, round-next}
use Rattle.topo_build.proofs.Rounds.{from-start, next-cons}
use Rattle.topo_build.proofs.Separate.{IsSimple, all-edges-have, simple-sound, two-edges}
use Rattle.topo_build.proofs.Sharing.{next-none, next-turned}
use Rattle.topo_build.proofs.Sound.{AreSound}
use Rattle.topo_build.proofs.SoundArcs.{IsSound}

-- ---- along the references

next-split : (a b v : Place) (here rest us qs : List Place) → v ∷ (here ++ rest) ≡ us ++ a ∷ b ∷ qs
    → AreNext a b (v ∷ here) ⊎ AreNext a b (end_of v here ∷ rest)
next-split a b v [] rest us qs e = inr (record { before = us; behind = qs; is = e })
next-split a b v (h ∷ hs) rest [] qs e = let first : v ≡ a = cc in let second : h ≡ b = cc in
    inl (record { before = []; behind = hs; is = cc })
next-split a b v (h ∷ hs) rest (u ∷ us) qs e =
    let tail : h ∷ (hs ++ rest) ≡ us ++ a ∷ b ∷ qs = cc in
    elim (next-split a b h hs rest us qs tail) [
      | inl early ↦ inl (next-cons a b v (h ∷ hs) early)
      | inr late ↦ inr late
    ]

walk-known : (arcs : List (List Place)) (r : ℤ) (v : Place) (ps : List Place) → walk_of arcs r ≡ v ∷ ps → arc_of r < length arcs
walk-known arcs (pos k) v ps is = elim (cases_lt k (length arcs)) [
  | inl inside ↦ inside
  | inr past ↦ let none = get_or_past arcs k [] (omega arith) in absurd (cc)
]
walk-known arcs (negsuc k) v ps is = elim (cases_lt k (length arcs)) [
  | inl inside ↦ inside
  | inr past ↦
      let none : reverse (get_or arcs k []) ≡ [] = ap reverse (get_or_past arcs k [] (omega arith)) in
      absurd (cc)
]

-- an arc that a reference names goes from a to b
record IsAlongSome (arcs : List (List Place)) (a b : Place) : Type 0 where
  pub reference : ℤ
  pub along : IsAlong arcs a b reference

led-along : (arcs : List (List Place)) (a b v : Place) (refs : List ℤ) (ws : List Place) → Leads arcs v refs ws → AreNext a b (v ∷ ws)
    → IsAlongSome arcs a b
led-along arcs a b v [] ws leads next = absurd (next-none a b v (subst (λ ps. AreNext a b (v ∷ ps)) leads next))
led-along arcs a b v (r ∷ rs) ws leads next =
    let here = leads.0 in
    let rest = leads.1 in
    let is : v ∷ (here ++ rest) ≡ next.before ++ a ∷ b ∷ next.behind = ap (λ ps. v ∷ ps) (sym leads.2) ∙ next.is in
    elim (next-split a b v here rest next.before next.behind is) [
      | inl early ↦ record {
        reference = r;
        along = record {
          known = walk-known arcs r v here leads.3;
          has =
              subst (AreNext a b) (sym leads.3) early;
        };
      }
      | inr late ↦ led-along arcs a b (end_of v here) rs rest leads.4 late
    ]

-- ---- the edges of arcs

pub record HasEdge (arcs : List (List Place)) (a b : Place) : Type 0 where
  pub edge : Edge
  pub has : Contains (edges_of_arcs 0 arcs) edge
  pub ends : IsEdgeBetween a b edge

record IsListed (edges : List Edge) (a b : Place) : Type 0 where
  pub edge : Edge
  pub has : Contains edges edge
  pub start : edge.start.place ≡ a
  pub end : edge.end.place ≡ b

listed-first : (e : Edge) (edges : List Edge) → IsListed (e ∷ edges) e.start.place e.end.place
listed-first e edges = record { edge = e; has = (0, omega arith, refl); start = refl; end = refl }

listed-later : (e : Edge) (edges : List Edge) (a b : Place) → IsListed edges a b → IsListed (e ∷ edges) a b
listed-later e edges a b l = record {
  edge = l.edge;
  has = (suc l.has.0, let inside = l.has.1 in omega arith, l.has.2);
  start =
      l.start;
  end = l.end;
}

listed-in : (arc at : ℕ) (us : List Place) (a b : Place) (qs : List Place)
    → IsListed (edges_of_list (vertices_from arc at (us ++ a ∷ b ∷ qs))) a b
listed-in arc at [] a b [] = listed-first _ _
listed-in arc at [] a b (q ∷ qs) = listed-first _ _
listed-in arc at (u ∷ []) a b [] = listed-later _ _ a b (listed-in arc (suc at) [] a b [])
listed-in arc at (u ∷ []) a b (q ∷ qs) = listed-later _ _ a b (listed-in arc (suc at) [] a b (q ∷ qs))
listed-in arc at (u ∷ w ∷ []) a b qs = listed-later _ _ a b (listed-in arc (suc at) (w ∷ []) a b qs)
listed-in arc at (u ∷ w ∷ y ∷ us) a b qs = listed-later _ _ a b (listed-in arc (suc at) (w ∷ y ∷ us) a b qs)

listed-arcs : (arc : ℕ) (pss : List (List Place)) (k : ℕ) (a b : Place) → k < length pss → AreNext a b (get_or pss k [])
    → IsListed (edges_of_arcs arc pss) a b
listed-arcs arc [] k a b inside next = absurd (omega arith)
listed-arcs arc (ps ∷ pss) zero a b inside next =
    let l : IsListed (edges_of_list (vertices_from arc 0 ps)) a b =
    subst (λ qs. IsListed (edges_of_list (vertices_from arc 0 qs)) a b) (sym next.is) (listed-in arc 0 next.before a b next.behind) in
    record {
      edge = l.edge;
      has = Contains-append_left (edges_of_list (vertices_from arc 0 ps)) (edges_of_arcs (suc arc) pss) l.edge l.has;
      start = l.start;
      end = l.end;
    }
listed-arcs arc (ps ∷ pss) (suc k) a b inside next =
    let l = listed-arcs (suc arc) pss k a b (omega arith) next in
    record {
      edge = l.edge;
      has = Contains-append_right (edges_of_list (vertices_from arc 0 ps)) (edges_of_arcs (suc arc) pss) l.edge l.has;
      start = l.start;
      end = l.end;
    }

along-edge : (arcs : List (List Place)) (a b : Place) (r : ℤ) → IsAlong arcs a b r → HasEdge arcs a b
along-edge arcs a b (pos k) along =
    let l = listed-arcs 0 arcs k a b along.known along.has in
    record { edge = l.edge; has = l.has; ends = inl (sym l.start, sym l.end) }
along-edge arcs a b (negsuc k) along =
    let l = listed-arcs 0 arcs k b a along.known (next-turned a b (get_or arcs k []) along.has) in
    record { edge = l.edge; has = l.has; ends = inr (sym l.end, sym l.start) }

-- ---- each turn

ring-edges : (k : ℕ) (arcs : List (List Place)) (c : List Place) (refs : List ℤ) → IsPutTogether arcs c refs
    → All (λ t. HasEdge arcs t.before t.at) (turns_round k c)
ring-edges k arcs c refs (Single p r is e walk) = subst (λ ps. All (λ t. HasEdge arcs t.before t.at) (turns_round k ps)) (sym is)
    (All-nil (λ t. HasEdge arcs t.before t.at))
ring-edges k arcs c refs (Round at v ws long inside is leads) =
    All-weaker (λ t. AreNext t.before t.at (c ++ take 1 c)) (λ t. HasEdge arcs t.before t.at)
    (λ t next.
    let on : AreNext t.before t.at (v ∷ ws) = subst (AreNext t.before t.at) is (from-start c t.before t.at at inside next) in
    let some = led-along arcs t.before t.at v refs ws leads on in
    along-edge arcs t.before t.at some.reference some.along)
    (turns_round k c) (round-next k c)

rings-edges : (k : ℕ) (arcs cs : List (List Place)) (refs : List (List ℤ)) → AllZip (IsPutTogether arcs) cs refs
    → All (λ t. HasEdge arcs t.before t.at) (turns_of k cs)
rings-edges k arcs [] refs zipped = All-nil (λ t. HasEdge arcs t.before t.at)
rings-edges k arcs (c ∷ cs) [] zipped = absurd zipped
rings-edges k arcs (c ∷ cs) (rs ∷ refs) zipped =
    All-append (λ t. HasEdge arcs t.before t.at) (turns_round k c) (turns_of (suc k) cs) (ring-edges k arcs c rs zipped.0)
    (rings-edges (suc k) arcs cs refs zipped.1)

-- ---- all edges

each-at : {X : Type 0} (P : X → Type 0) (xs : List X) (x : X) → EachOf P xs → Contains xs x → P x
each-at P [] x each (k, inside, there) = absurd (omega arith)
each-at P (y ∷ xs) x each (zero, inside, there) = subst P there each.0
each-at P (y ∷ xs) x each (suc k, inside, there) = each-at P xs x each.1 (k, omega arith, there)

ring-edge-between : (turns : List Turn) (arcs : List (List Place)) → All (HasRingEdges turns) arcs → (e : Edge)
    → Contains (edges_of_arcs 0 arcs) e → IsRingEdge turns e.start.place e.end.place
ring-edge-between turns arcs all e has = each-at (λ f. IsRingEdge turns f.start.place f.end.place) (edges_of_arcs 0 arcs) e
    (all-edges-have (IsRingEdge turns) 0 arcs all) has

pub edges-once : (cs arcs : List (List Place)) (refs : List (List ℤ)) → All IsArc arcs → AreSound (turns_of 0 cs) arcs
    → AllZip (IsPutTogether arcs) cs refs → HasEachEdgeOnce (turns_of 0 cs) arcs
edges-once cs arcs refs are sound zipped = record {
  all = λ t has. let e = All-contains (λ t. HasEdge arcs t.before t.at) (turns_of 0 cs) t (rings-edges 0 arcs cs refs zipped) has in
      (e.edge, e.has, e.ends);
  only = λ e has. let r = ring-edge-between (turns_of 0 cs) arcs sound.edges e has in (r.turn, r.has, inl (r.before, r.at));
  once = two-edges 0 arcs (λ k d inside. simple-sound (turns_of 0 cs) (get_or arcs k d) (are k d inside) (sound.each k d inside))
      sound.away;
}
