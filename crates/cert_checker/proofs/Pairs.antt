-- Allowed pairs by their parts.
use Rattle.std.proofs.Common.{◌≡◌, ◌∙◌, ◌↔◌, ◌+◌, ◌-◌, ◌<◌, ◌≤◌, ℕ, zero, suc, List, [], ◌∷◌, length, get_or, sym, ap, subst, refl, arith}
use Rattle.std.proofs.Common.{inl, inr, add-one}
use Rattle.std.specs.Prelude.{All, Contains}
use Rattle.std.specs.List.{between}
use Rattle.std.proofs.lemmas.Bool.{cases_lt}
use Rattle.std.proofs.lemmas.List.{get_or-map, get_or_default, get_or_past, length-drop, length-map, length-take-le}
use Rattle.std.proofs.lemmas.List.Elements.{All-contains, All-contains_itself, All-weaker, All-map, Contains-get_or}
use Rattle.grid_exact.specs.Geometry.{Place}
use Rattle.grid_exact.specs.Runs.{IsEdgeOf}
use Rattle.grid_exact.specs.Segments.{SameEnds}
use Rattle.arc_map.specs.Allowed.{IsConsistent, IsShortcut}
use Rattle.arc_map.specs.Allowed.IsAllowed.{Neighbours, Shortcut}
use Rattle.arc_map.specs.Arranged.{nowhere}
use Rattle.arc_map.specs.Chains.{Chain, chain_at, chain_places, no_chain, IsOtherEdge}
use Rattle.arc_map.specs.Paths.{IsAllowedPair, vertex_at, vertices_of}
use Rattle.arc_map.specs.Vertices.{Vertex, places}
use Rattle.arc_map.proofs.Chained.{chain_is_known, length-chain_places}
use Rattle.cert_checker.specs.Open.{IsOpen, IsOpenPair, Joins, LetsRun}
use Rattle.cert_checker.specs.Runs.{place_at, run_end, run_inner}
use Rattle.cert_checker.proofs.Parts.{RunParts, place_of_vertex, places_between}

-- ---- edges by number

-- the edge number s of a walk
pub edge_by_number : {A : Type 0} (v : A) (ws : List A) (s : ℕ) (d : A) → suc s < length (v ∷ ws)
    → IsEdgeOf v ws (get_or (v ∷ ws) s d) (get_or (v ∷ ws) (suc s) d)
edge_by_number v [] s d within = absurd (omega (arith, within))
edge_by_number v (w ∷ ws) zero d within = inl (refl, refl)
edge_by_number v (w ∷ ws) (suc s) d within = inr (edge_by_number w ws s d (omega (arith, within)))

-- the number of an edge
pub record EdgeNumber {A : Type 0} (v : A) (ws : List A) (a b d : A) : Type 0 where
  pub number : ℕ
  pub within : suc number < length (v ∷ ws)
  pub start : get_or (v ∷ ws) number d ≡ a
  pub end : get_or (v ∷ ws) (suc number) d ≡ b

pub edge_number : {A : Type 0} (v : A) (ws : List A) (a b d : A) → IsEdgeOf v ws a b → EdgeNumber v ws a b d
edge_number v [] a b d e = absurd e
edge_number v (w ∷ ws) a b d (inl e) = record { number = 0; within = omega arith; start = e.0; end = e.1 }
edge_number v (w ∷ ws) a b d (inr e) =
    let h = edge_number w ws a b d e in
    record { number = suc h.number; within = omega (arith, h.within); start = h.start; end = h.end }

edge_some : {A : Type 0} (v : A) (ws : List A) (c d : A) → IsEdgeOf v ws c d → 0 < length ws
edge_some v [] c d e = absurd e
edge_some v (w ∷ ws) c d e = omega arith

-- ---- the vertices of one chain, by its edges

chain_place : (k : Chain) (s : ℕ) (d : Vertex) → s < length (k.first ∷ k.rest)
    → (get_or (k.first ∷ k.rest) s d).place ≡ get_or (chain_places k) s nowhere
chain_place k s d within = sym (get_or-map (λ v. v.place) (k.first ∷ k.rest) s d nowhere within)

-- what holds of the two ends of each edge holds of each vertex
each_vertex : (P : Place → Type 0) (k : Chain) → 0 < length k.rest → ((c d : Vertex) → IsEdgeOf k.first k.rest c d → P c.place × P d.place)
    → All P (chain_places k)
each_vertex P k some ends s x within =
    let size = length-chain_places k in
    let known : s < length (k.first ∷ k.rest) = omega (arith, size, within) in
    let place : (get_or (k.first ∷ k.rest) s k.first).place ≡ get_or (chain_places k) s x = chain_place k s k.first known
    ∙ get_or_default (chain_places k) s nowhere x within in
    elim (cases_lt (suc s) (length (k.first ∷ k.rest))) [
      | inl more ↦ subst P place (ends _ _ (edge_by_number k.first k.rest s k.first more)).0
      | inr none ↦ at_last s none known place
    ]
  where
    at_last : (s : ℕ) → length (k.first ∷ k.rest) ≤ suc s → s < length (k.first ∷ k.rest)
        → (get_or (k.first ∷ k.rest) s k.first).place ≡ get_or (chain_places k) s x → P (get_or (chain_places k) s x)
    at_last zero none known place = absurd (omega (arith, some, none))
    at_last (suc t) none known place = subst P place (ends _ _ (edge_by_number k.first k.rest t k.first known)).1

-- both ends of an edge are vertices
end_is_vertex : (k : Chain) (c d : Vertex) → IsEdgeOf k.first k.rest c d
    → Contains (chain_places k) c.place × Contains (chain_places k) d.place
end_is_vertex k c d e =
    let h = edge_number k.first k.rest c d c e in
    let size = length-chain_places k in
    let before : h.number < length (k.first ∷ k.rest) = omega (arith, h.within) in
    let first : get_or (chain_places k) h.number nowhere ≡ c.place = sym (chain_place k h.number c before) ∙ ap (λ v. v.place) h.start in
    let second : get_or (chain_places k) (suc h.number) nowhere ≡ d.place = sym (chain_place k (suc h.number) c h.within)
    ∙ ap (λ v. v.place) h.end in (
      subst (Contains (chain_places k)) first (Contains-get_or (chain_places k) h.number nowhere (omega (arith, size, before))),
      subst (Contains (chain_places k)) second (Contains-get_or (chain_places k) (suc h.number) nowhere (omega (arith, size, h.within))),
    )

-- two places after one another are the ends of an edge
pub joined_edge : (k : Chain) (v w : Place) → Joins v w (chain_places k)
    → (c : Vertex) × (d : Vertex) × IsEdgeOf k.first k.rest c d × SameEnds v w c.place d.place
joined_edge k v w j =
    let size = length-chain_places k in
    let s = j.number in
    let next : s + 1 ≡ suc s = add-one s in
    let within : suc s < length (k.first ∷ k.rest) = omega (arith, size, j.within) in
    let before : s < length (k.first ∷ k.rest) = omega (arith, within) in
    let first = chain_place k s k.first before in
    let second : (get_or (k.first ∷ k.rest) (suc s) k.first).place ≡ get_or (chain_places k) (s + 1) nowhere =
    chain_place k (suc s) k.first within ∙ ap (λ n. get_or (chain_places k) n nowhere) (sym next) in (
      get_or (k.first ∷ k.rest) s k.first,
      get_or (k.first ∷ k.rest) (suc s) k.first,
      edge_by_number k.first k.rest s k.first within,
      subst (λ q. SameEnds v w q (get_or (k.first ∷ k.rest) (suc s) k.first).place) (sym first)
          (subst (λ q. SameEnds v w (get_or (chain_places k) s nowhere) q) (sym second) j.ends),
    )

-- and the other way round
pub edge_joins : (k : Chain) (v w : Place) (c d : Vertex) → IsEdgeOf k.first k.rest c d → SameEnds v w c.place d.place
    → Joins v w (chain_places k)
edge_joins k v w c d e ends =
    let h = edge_number k.first k.rest c d c e in
    let size = length-chain_places k in
    let next : h.number + 1 ≡ suc h.number = add-one h.number in
    let before : h.number < length (k.first ∷ k.rest) = omega (arith, h.within) in
    let first : get_or (chain_places k) h.number nowhere ≡ c.place = sym (chain_place k h.number c before) ∙ ap (λ v. v.place) h.start in
    let second : get_or (chain_places k) (h.number + 1) nowhere ≡ d.place = ap (λ n. get_or (chain_places k) n nowhere) next
    ∙ sym (chain_place k (suc h.number) c h.within) ∙ ap (λ v. v.place) h.end in
    record {
      number = h.number;
      within = omega (arith, size, h.within);
      ends = subst (λ q. SameEnds v w q (get_or (chain_places k) (h.number + 1) nowhere)) (sym first)
          (subst (λ q. SameEnds v w c.place q) (sym second) ends);
    }

-- ---- what is open, by the parts of a shortcut

pub shortcut_from_open : (Near : Place → Place → Place → Type 0) (chains : List Chain) (points : List Place) (k : ℕ) (v : Vertex) (skipped :
    List Vertex) (w : Vertex) → All (λ u. Near v.place w.place u.place) skipped → IsOpen chains points k v.place (places skipped) w.place
    → IsShortcut Near (IsOtherEdge chains k) (Contains points) v skipped w
shortcut_from_open Near chains points k v skipped w near is_open =
    let lets : (c d : Vertex) (e : IsOtherEdge chains k c d)
    → LetsRun v.place (places skipped) w.place (chain_places (chain_at chains e.chain)) = (λ c d e.
    let known = chain_is_known chains e.chain c d e.edge in
    let some = edge_some (chain_at chains e.chain).first (chain_at chains e.chain).rest c d e.edge in
    is_open.others e.chain known e.other some) in
    record {
      near = near;
      points = λ p h. All-contains (IsConsistent v.place w.place (places skipped)) points p is_open.towns h;
      starts = λ c d e. All-contains (IsConsistent v.place w.place (places skipped)) (chain_places (chain_at chains e.chain)) c.place
          (lets c d e).vertices (end_is_vertex (chain_at chains e.chain) c d e.edge).0;
      ends = λ c d e. All-contains (IsConsistent v.place w.place (places skipped)) (chain_places (chain_at chains e.chain)) d.place
          (lets c d e).vertices (end_is_vertex (chain_at chains e.chain) c d e.edge).1;
      single = λ c d e same. (lets c d e).single (edge_joins (chain_at chains e.chain) v.place w.place c d e.edge same);
    }

pub open_from_shortcut : (Near : Place → Place → Place → Type 0) (chains : List Chain) (points : List Place) (k : ℕ) (v : Vertex) (skipped :
    List Vertex) (w : Vertex) → IsShortcut Near (IsOtherEdge chains k) (Contains points) v skipped w
    → IsOpen chains points k v.place (places skipped) w.place
open_from_shortcut Near chains points k v skipped w s = record {
  towns = All-weaker (Contains points) (IsConsistent v.place w.place (places skipped)) s.points points (All-contains_itself points);
  others = λ l known other some.
      let edge : (c d : Vertex) → IsEdgeOf (chain_at chains l).first (chain_at chains l).rest c d
      → IsOtherEdge chains k c d = (λ c d e. record { chain = l; other = other; edge = e }) in
      record {
        vertices = each_vertex (IsConsistent v.place w.place (places skipped)) (chain_at chains l) some (λ c d e.
            (s.starts c d (edge c d e), s.ends c d (edge c d e)));
        single = λ j. let e = joined_edge (chain_at chains l) v.place w.place j in s.single e.0 e.1 (edge e.0 e.1 e.2) e.3;
      };
}

-- ---- a pair that skips a vertex

some_between : (k : Chain) (i j : ℕ) → i + 1 < j → j ≤ length k.rest → between (i + 1) j (vertices_of k) ≡ [] → ⊥
some_between k i j order within none =
    let size : length (between (i + 1) j (vertices_of k)) ≡ j - (i + 1) =
    length-take-le (j - (i + 1)) _ (omega (arith, length-drop (i + 1) (vertices_of k))) in
    let e = ap length none in
    omega (arith, size, e)

near_vertices : (Near : Place → Place → Place → Type 0) (v w : Place) (us : List Vertex) → All (λ p. Near v w p) (places us)
    → All (λ (u : Vertex). Near v w u.place) us
near_vertices Near v w us near n d within = subst (λ p. Near v w p) (get_or-map (λ u. u.place) us n d d.place within)
    (near n d.place (omega (arith, within, length-map us (λ u. u.place))))

-- the pair is allowed exactly where what it skips is near and the rest of the map lets it
pub allowed_by_parts : (Near : Place → Place → Place → Type 0) (chains : List Chain) (points : List Place) (k i j : ℕ) → i + 1 < j
    → j ≤ length (chain_at chains k).rest
    → (All (λ p. Near (place_at (chain_places (chain_at chains k)) i) (place_at (chain_places (chain_at chains k)) j) p)
    (between (i + 1) j (chain_places (chain_at chains k))) × IsOpenPair chains points k i j) ↔ IsAllowedPair Near chains points k i j
allowed_by_parts Near chains points k i j order within =
    let c = chain_at chains k in
    let v = vertex_at c i in
    let w = vertex_at c j in
    let skipped = between (i + 1) j (vertices_of c) in
    let start : v.place ≡ place_at (chain_places c) i = place_of_vertex c i (omega (arith, order, within)) in
    let end : w.place ≡ place_at (chain_places c) j = place_of_vertex c j within in
    let inner : places skipped ≡ between (i + 1) j (chain_places c) = places_between c (i + 1) j in
    let Q : Place → Place → List Place → Type 0 = λ a b ps. All (λ p. Near a b p) ps × IsOpen chains points k a ps b in (
      λ h.
          let g : Q v.place w.place (places skipped) = subst (λ a. Q a w.place (places skipped)) (sym start)
          (subst (λ b. Q (place_at (chain_places c) i) b (places skipped)) (sym end)
          (subst (λ ps. Q (place_at (chain_places c) i) (place_at (chain_places c) j) ps) (sym inner) h)) in
          Shortcut (shortcut_from_open Near chains points k v skipped w (near_vertices Near v.place w.place skipped g.0) g.1),
      λ a. elim a [
        | Neighbours none ↦ absurd (some_between c i j order within none)
        | Shortcut s ↦
            let g : Q v.place w.place (places skipped) =
            (All-map (λ p. Near v.place w.place p) (λ u. u.place) skipped s.near, open_from_shortcut Near chains points k v skipped w s)
            in
            subst (λ ps. Q (place_at (chain_places c) i) (place_at (chain_places c) j) ps) inner
            (subst (λ b. Q (place_at (chain_places c) i) b (places skipped)) end (subst (λ a. Q a w.place (places skipped)) start g))
      ],
    )

-- the same for the run as a list
pub allowed_by_run : (Near : Place → Place → Place → Type 0) (chains : List Chain) (points : List Place) (k i j : ℕ) (ps : List Place)
    (first : Place) (rest : List Place) → i + 1 < j → j ≤ length (chain_at chains k).rest → ps ≡ chain_places (chain_at chains k)
    → RunParts ps i j first rest → (All (λ p. Near first (run_end first rest) p) (run_inner rest)
    × IsOpen chains points k first (run_inner rest) (run_end first rest)) ↔ IsAllowedPair Near chains points k i j
allowed_by_run Near chains points k i j ps first rest order within same parts =
    let c = chain_places (chain_at chains k) in
    let start : first ≡ place_at c i = parts.start ∙ ap (λ qs. place_at qs i) same in
    let inner : run_inner rest ≡ between (i + 1) j c = parts.inner ∙ ap (λ qs. between (i + 1) j qs) same in
    let end : run_end first rest ≡ place_at c j = parts.end ∙ ap (λ qs. place_at qs j) same in
    let Told : Place → List Place → Place → Type 0 = λ a skipped b. (All (λ p. Near a b p) skipped × IsOpen chains points k a skipped b)
    ↔ IsAllowedPair Near chains points k i j in
    subst (λ a. Told a (run_inner rest) (run_end first rest)) (sym start)
    (subst (λ skipped. Told (place_at c i) skipped (run_end first rest)) (sym inner)
    (subst (λ b. Told (place_at c i) (between (i + 1) j c) b) (sym end)
    (allowed_by_parts Near chains points k i j order within)))
