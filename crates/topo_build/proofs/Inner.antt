-- Vertices inside an arc: the edge of the arc before each and the edge after it.
use Rattle.std.proofs.Common.{◌≡◌, ◌∙◌, ◌<◌, ℕ, zero, suc, Bool, true, false, List, [], ◌∷◌, ◌++◌, All, Contains, length, ap, inl, inr}
use Rattle.std.proofs.Common.{refl}
use Rattle.std.proofs.Common.{subst, sym, arith}
use Rattle.std.proofs.lemmas.Bool.{true≢false}
use Rattle.std.proofs.lemmas.List.Elements.{All-head, All-tail, Contains-append_cases, Contains-append_left, Contains-append_right}
use Rattle.grid_exact.specs.Geometry.{Place}
use Rattle.arc_map.specs.Arcs.{edges_of_arcs, edges_of_list, is_first, vertex, vertices_from}
use Rattle.arc_map.specs.Edges.{Edge}
use Rattle.topo_build.proofs.Triples.{EachTriple}

-- an edge behind the edge, which begins where that ends
pub record HasNextEdge (T : Place → Place → Place → Type 0) (edges : List Edge) (e : Edge) : Type 0 where
  pub edge : Edge
  pub has : Contains edges edge
  pub joins : edge.start ≡ e.end
  pub triple : T e.start.place e.end.place edge.end.place

-- an edge before the edge, which ends where that begins
pub record HasEdgeBefore (T : Place → Place → Place → Type 0) (edges : List Edge) (e : Edge) : Type 0 where
  pub edge : Edge
  pub has : Contains edges edge
  pub joins : edge.end ≡ e.start
  pub triple : T edge.start.place e.start.place e.end.place

pub nothing-in : {X : Type 0} (x : X) → Contains [] x → ⊥
nothing-in x (k, inside, there) = absurd (omega arith)

pub has-later : {X : Type 0} (y : X) (xs : List X) (x : X) → Contains xs x → Contains (y ∷ xs) x
has-later y xs x (k, inside, there) = (suc k, omega arith, there)

-- ---- in one arc

next-edge : (T : Place → Place → Place → Type 0) (arc at : ℕ) (ps : List Place) → EachTriple T ps → (e : Edge)
    → Contains (edges_of_list (vertices_from arc at ps)) e → e.end.is_end ≡ false
    → HasNextEdge T (edges_of_list (vertices_from arc at ps)) e
next-edge T arc at [] h e has inner = absurd (nothing-in e has)
next-edge T arc at (a ∷ []) h e has inner = absurd (nothing-in e has)
next-edge T arc at (a ∷ b ∷ []) h e (zero, inside, there) inner = absurd (true≢false (ap (λ (x : Edge). x.end.is_end) there ∙ inner))
next-edge T arc at (a ∷ b ∷ []) h e (suc k, inside, there) inner = absurd (omega arith)
next-edge T arc at (a ∷ b ∷ c ∷ []) h e (zero, inside, there) inner =
    let on : Edge = record { start = vertex arc (suc at) false b; end = vertex arc (suc (suc at)) true c } in
    subst (HasNextEdge T (edges_of_list (vertices_from arc at (a ∷ b ∷ c ∷ [])))) there (record {
      edge = on;
      has = (1, omega arith, refl);
      joins = refl;
      triple = h.0;
    })
next-edge T arc at (a ∷ b ∷ c ∷ d ∷ ps) h e (zero, inside, there) inner =
    let on : Edge = record { start = vertex arc (suc at) false b; end = vertex arc (suc (suc at)) false c } in
    subst (HasNextEdge T (edges_of_list (vertices_from arc at (a ∷ b ∷ c ∷ d ∷ ps)))) there (record {
      edge = on;
      has = (1, omega arith, refl);
      joins = refl;
      triple = h.0;
    })
next-edge T arc at (a ∷ b ∷ c ∷ []) h e (suc k, inside, there) inner =
    let rest = next-edge T arc (suc at) (b ∷ c ∷ []) h.1 e (k, omega arith, there) inner in
    let before : Edge = record { start = vertex arc at (is_first at) a; end = vertex arc (suc at) false b } in
    record {
      edge = rest.edge;
      has = has-later before (edges_of_list (vertices_from arc (suc at) (b ∷ c ∷ []))) rest.edge rest.has;
      joins = rest.joins;
      triple = rest.triple;
    }
next-edge T arc at (a ∷ b ∷ c ∷ d ∷ ps) h e (suc k, inside, there) inner =
    let rest = next-edge T arc (suc at) (b ∷ c ∷ d ∷ ps) h.1 e (k, omega arith, there) inner in
    let before : Edge = record { start = vertex arc at (is_first at) a; end = vertex arc (suc at) false b } in
    record {
      edge = rest.edge;
      has = has-later before (edges_of_list (vertices_from arc (suc at) (b ∷ c ∷ d ∷ ps))) rest.edge rest.has;
      joins = rest.joins;
      triple = rest.triple;
    }

-- from the second edge on
edge-behind : (T : Place → Place → Place → Type 0) (arc at : ℕ) (a b : Place) (ps : List Place) → EachTriple T (a ∷ b ∷ ps) → (e : Edge)
    → Contains (edges_of_list (vertices_from arc (suc at) (b ∷ ps))) e
    → HasEdgeBefore T (edges_of_list (vertices_from arc at (a ∷ b ∷ ps))) e
edge-behind T arc at a b [] h e has = absurd (nothing-in e has)
edge-behind T arc at a b (c ∷ []) h e (zero, inside, there) =
    let before : Edge = record { start = vertex arc at (is_first at) a; end = vertex arc (suc at) false b } in
    subst (HasEdgeBefore T (edges_of_list (vertices_from arc at (a ∷ b ∷ c ∷ [])))) there (record {
      edge = before;
      has = (0, omega arith, refl);
      joins = refl;
      triple = h.0;
    })
edge-behind T arc at a b (c ∷ []) h e (suc k, inside, there) = absurd (omega arith)
edge-behind T arc at a b (c ∷ d ∷ ps) h e (zero, inside, there) =
    let before : Edge = record { start = vertex arc at (is_first at) a; end = vertex arc (suc at) false b } in
    subst (HasEdgeBefore T (edges_of_list (vertices_from arc at (a ∷ b ∷ c ∷ d ∷ ps)))) there (record {
      edge = before;
      has = (0, omega arith, refl);
      joins = refl;
      triple = h.0;
    })
edge-behind T arc at a b (c ∷ d ∷ ps) h e (suc k, inside, there) =
    let rest = edge-behind T arc (suc at) b c (d ∷ ps) h.1 e (k, omega arith, there) in
    let before : Edge = record { start = vertex arc at (is_first at) a; end = vertex arc (suc at) false b } in
    record {
      edge = rest.edge;
      has = has-later before (edges_of_list (vertices_from arc (suc at) (b ∷ c ∷ d ∷ ps))) rest.edge rest.has;
      joins = rest.joins;
      triple = rest.triple;
    }

edge-before : (T : Place → Place → Place → Type 0) (arc : ℕ) (ps : List Place) → EachTriple T ps → (e : Edge)
    → Contains (edges_of_list (vertices_from arc 0 ps)) e → e.start.is_end ≡ false
    → HasEdgeBefore T (edges_of_list (vertices_from arc 0 ps)) e
edge-before T arc [] h e has inner = absurd (nothing-in e has)
edge-before T arc (a ∷ []) h e has inner = absurd (nothing-in e has)
edge-before T arc (a ∷ b ∷ []) h e (zero, inside, there) inner = absurd (true≢false (ap (λ (x : Edge). x.start.is_end) there ∙ inner))
edge-before T arc (a ∷ b ∷ []) h e (suc k, inside, there) inner = absurd (omega arith)
edge-before T arc (a ∷ b ∷ c ∷ ps) h e (zero, inside, there) inner =
    absurd (true≢false (ap (λ (x : Edge). x.start.is_end) there ∙ inner))
edge-before T arc (a ∷ b ∷ c ∷ ps) h e (suc k, inside, there) inner = edge-behind T arc 0 a b (c ∷ ps) h e (k, omega arith, there)

-- ---- in all arcs

pub next-in : (T : Place → Place → Place → Type 0) (arc : ℕ) (pss : List (List Place)) → All (EachTriple T) pss → (e : Edge)
    → Contains (edges_of_arcs arc pss) e → e.end.is_end ≡ false → HasNextEdge T (edges_of_arcs arc pss) e
next-in T arc [] all e has inner = absurd (nothing-in e has)
next-in T arc (ps ∷ pss) all e has inner =
    let here = edges_of_list (vertices_from arc 0 ps) in
    let later = edges_of_arcs (suc arc) pss in
    elim (Contains-append_cases here later e has) [
      | inl in_here ↦
          let n = next-edge T arc 0 ps (All-head (EachTriple T) ps pss all) e in_here inner in
          record { edge = n.edge; has = Contains-append_left here later n.edge n.has; joins = n.joins; triple = n.triple }
      | inr in_later ↦
          let n = next-in T (suc arc) pss (All-tail (EachTriple T) ps pss all) e in_later inner in
          record { edge = n.edge; has = Contains-append_right here later n.edge n.has; joins = n.joins; triple = n.triple }
    ]

pub before-in : (T : Place → Place → Place → Type 0) (arc : ℕ) (pss : List (List Place)) → All (EachTriple T) pss → (e : Edge)
    → Contains (edges_of_arcs arc pss) e → e.start.is_end ≡ false → HasEdgeBefore T (edges_of_arcs arc pss) e
before-in T arc [] all e has inner = absurd (nothing-in e has)
before-in T arc (ps ∷ pss) all e has inner =
    let here = edges_of_list (vertices_from arc 0 ps) in
    let later = edges_of_arcs (suc arc) pss in
    elim (Contains-append_cases here later e has) [
      | inl in_here ↦
          let b = edge-before T arc ps (All-head (EachTriple T) ps pss all) e in_here inner in
          record { edge = b.edge; has = Contains-append_left here later b.edge b.has; joins = b.joins; triple = b.triple }
      | inr in_later ↦
          let b = before-in T (suc arc) pss (All-tail (EachTriple T) ps pss all) e in_later inner in
          record { edge = b.edge; has = Contains-append_right here later b.edge b.has; joins = b.joins; triple = b.triple }
    ]
