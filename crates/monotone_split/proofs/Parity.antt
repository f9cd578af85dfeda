-- The parity of an arc's crossings is that of its chains.
use Rattle.std.proofs.Common.{◌≡◌, ◌≢◌, ℕ, zero, suc, ◌+◌, ◌≤◌, Bool, true, false, nat_eq, List, [], ◌∷◌, ◌++◌, get_or, refl, sym, ap}
use Rattle.std.proofs.Common.{subst, ◌∙◌, arith}
use Rattle.std.proofs.lemmas.Bool.Decides.{nat_tests}
use Rattle.grid_exact.specs.Geometry.{Place}
use Rattle.grid_exact.specs.Crossing.{is_crossed}
use Rattle.grid_exact.specs.Walks.{count_edges, is_odd, differ, end_of}
use Rattle.grid_exact.proofs.Walks.{is_odd-counted, differ_assoc}
use Rattle.grid_exact.proofs.Crossings.{differ_false}
use Rattle.arc_map.specs.Vertices.{Vertex, places}
use Rattle.arc_map.specs.Chains.{Chain, is_crossed_oddly}
use Rattle.arc_map.specs.Edges.{EachOf, is_arc_crossed_oddly}
use Rattle.arc_map.specs.Arcs.{vertex, vertices_from, AreKept, IsCutInto, IsListCutInto, AreChainsOf, joined_rests, joined_arc, arcs_now}
use Rattle.arc_map.specs.Arcs.{is_list_crossed_oddly}
use Rattle.monotone_split.specs.Laws.{ParityOfArcs}
use Rattle.monotone_split.proofs.Cuts.{of_mapped, parts_of_arc, parts_of_arcs}
use Rattle.monotone_split.proofs.Finish.{eq_test, kept_parts, kept_firsts, kept_last, taken, left_over}

-- ---- walks

abbrev walk_oddly : Place → Vertex → List Vertex → Bool
walk_oddly p v ws = is_odd (count_edges (is_crossed p) v.place (places ws))

walk_append : (p : Place) (v : Vertex) (run rest : List Vertex)
    → walk_oddly p v (run ++ rest) ≡ differ (walk_oddly p v run) (walk_oddly p (end_of v run) rest)
walk_append p v [] rest = refl
walk_append p v (w ∷ ws) rest =
    is_odd-counted (is_crossed p) v.place w.place (places (ws ++ rest))
    ∙ ap (λ (t : Bool). differ (is_crossed p v.place w.place) t) (walk_append p w ws rest)
    ∙ differ_assoc (is_crossed p v.place w.place) (walk_oddly p w ws) (walk_oddly p (end_of w ws) rest)
    ∙ ap (λ (t : Bool). differ t (walk_oddly p (end_of w ws) rest)) (sym (is_odd-counted (is_crossed p) v.place w.place (places ws)))

abbrev all_oddly : Place → List Chain → Bool
all_oddly p [] = false
all_oddly p (k ∷ ks) = differ (is_crossed_oddly p k) (all_oddly p ks)

joined_oddly : (p : Place) (v : Vertex) (ws : List Vertex) (ks ls : List Chain) → IsCutInto v ws ks → AreKept ks ls
    → walk_oddly p v (joined_rests ls) ≡ all_oddly p ls
joined_oddly p v ws [] [] cut kept = refl
joined_oddly p v ws [] (l ∷ ls) cut kept = absurd kept
joined_oddly p v ws (k ∷ ks) [] cut kept = absurd kept
joined_oddly p v ws (k ∷ ks) (l ∷ ls) cut kept =
    walk_append p v l.rest (joined_rests ls)
    ∙ ap (λ (x : Vertex). differ (walk_oddly p x l.rest) (walk_oddly p (end_of v l.rest) (joined_rests ls))) (sym (kept.0 ∙ cut.0))
    ∙ ap (λ (x : Vertex). differ (is_crossed_oddly p l) (walk_oddly p x (joined_rests ls))) (kept_last v k.rest l.rest kept.1)
    ∙ ap (λ (t : Bool). differ (is_crossed_oddly p l) t) (joined_oddly p (end_of v k.rest) cut.2 ks ls cut.4 kept.2)

-- ---- chains by their arc

other_test : (m n : ℕ) → m ≢ n → nat_eq m n ≡ false
other_test m n h = grind (arith, nat_tests)

arc_append : (p : Place) (arc : ℕ) (xs ys : List Chain) → is_arc_crossed_oddly p arc (xs ++ ys)
    ≡ differ (is_arc_crossed_oddly p arc xs) (is_arc_crossed_oddly p arc ys)
arc_append p arc [] ys = refl
arc_append p arc (x ∷ xs) ys =
    ap (λ (t : Bool). elim (nat_eq x.first.arc arc) [ true ↦ differ (is_crossed_oddly p x) t | false ↦ t ]) (arc_append p arc xs ys)
    ∙ split (nat_eq x.first.arc arc) (is_crossed_oddly p x) (is_arc_crossed_oddly p arc xs) (is_arc_crossed_oddly p arc ys)
  where
    split : (b r s t : Bool) → elim b [ true ↦ differ r (differ s t) | false ↦ differ s t ]
        ≡ differ (elim b [ true ↦ differ r s | false ↦ s ]) t
    split true r s t = differ_assoc r s t
    split false r s t = refl

arc_none : (p : Place) (arc : ℕ) (xs : List Chain) → EachOf (λ k. k.first.arc ≢ arc) xs → is_arc_crossed_oddly p arc xs ≡ false
arc_none p arc [] h = refl
arc_none p arc (x ∷ xs) h = ap (λ (t : Bool). elim t [
  | true ↦ differ (is_crossed_oddly p x) (is_arc_crossed_oddly p arc xs)
  | false ↦ is_arc_crossed_oddly p arc xs
]) (other_test x.first.arc arc h.0) ∙ arc_none p arc xs h.1

arc_all : (p : Place) (arc : ℕ) (xs : List Chain) → EachOf (λ k. k.first.arc ≡ arc) xs → is_arc_crossed_oddly p arc xs ≡ all_oddly p xs
arc_all p arc [] h = refl
arc_all p arc (x ∷ xs) h =
    ap (λ (t : Bool). elim t [
      | true ↦ differ (is_crossed_oddly p x) (is_arc_crossed_oddly p arc xs)
      | false ↦ is_arc_crossed_oddly p arc xs
    ]) (eq_test x.first.arc arc h.0)
    ∙ ap (λ (t : Bool). differ (is_crossed_oddly p x) t) (arc_all p arc xs h.1)

-- ---- one arc

pub no_walk : (arc : ℕ) (q : Place) (qs : List Place) → vertices_from arc 1 (q ∷ qs) ≡ [] → ⊥
no_walk arc q [] e = cc
no_walk arc q (r ∷ rs) e = cc

list_oddly : (p : Place) (arc : ℕ) (ps : List Place) (ks ls : List Chain) → IsListCutInto (vertices_from arc 0 ps) ks → AreKept ks ls
    → is_list_crossed_oddly p (joined_arc ps ls) ≡ all_oddly p ls
list_oddly p arc [] [] [] cut kept = refl
list_oddly p arc (q ∷ []) [] [] cut kept = refl
list_oddly p arc (q ∷ r ∷ rs) [] [] cut kept = absurd (no_walk arc r rs cut)
list_oddly p arc ps [] (l ∷ ls) cut kept = absurd kept
list_oddly p arc ps (k ∷ ks) [] cut kept = absurd kept
list_oddly p arc [] (k ∷ ks) (l ∷ ls) cut kept = absurd (none k ks cut)
  where
    none : (k : Chain) (ks : List Chain) → k ∷ ks ≡ [] → ⊥
    none k ks e = cc
list_oddly p arc (q ∷ []) (k ∷ ks) (l ∷ ls) cut kept = ap (λ (x : Vertex). walk_oddly p x (joined_rests (l ∷ ls))) (kept.0 ∙ cut.0)
    ∙ joined_oddly p (vertex arc 0 true q) [] (k ∷ ks) (l ∷ ls) cut kept
list_oddly p arc (q ∷ r ∷ rs) (k ∷ ks) (l ∷ ls) cut kept = ap (λ (x : Vertex). walk_oddly p x (joined_rests (l ∷ ls))) (kept.0 ∙ cut.0)
    ∙ joined_oddly p (vertex arc 0 true q) (vertices_from arc 1 (r ∷ rs)) (k ∷ ks) (l ∷ ls) cut kept

-- ---- all arcs

arcs_oddly : (p : Place) (arc : ℕ) (pss : List (List Place)) (ks ls : List Chain) (i : ℕ) → AreChainsOf arc pss ks → AreKept ks ls
    → is_list_crossed_oddly p (get_or (arcs_now arc pss ls) i []) ≡ is_arc_crossed_oddly p (arc + i) ls
arcs_oddly p arc [] ks [] i cut kept = refl
arcs_oddly p arc [] ks (l ∷ ls) i cut kept = absurd (subst (λ (xs : List Chain). AreKept xs (l ∷ ls)) cut kept)
arcs_oddly p arc (ps ∷ pss) ks ls i cut kept =
    let parts = kept_parts cut.0 cut.1 ls (subst (λ (xs : List Chain). AreKept xs ls) cut.2 kept) in
    let firsts = kept_firsts (λ v. v.arc ≡ arc) cut.0 parts.first (parts_of_arc arc ps cut.0 cut.3).arcs parts.first_kept in
    let seconds = kept_firsts (λ v. suc arc ≤ v.arc) cut.1 parts.second (parts_of_arcs (suc arc) pss cut.1 cut.4).arcs parts.second_kept in
    subst (λ (xs : List Chain). is_list_crossed_oddly p (get_or (arcs_now arc (ps ∷ pss) xs) i []) ≡ is_arc_crossed_oddly p (arc + i) xs)
    (sym parts.whole)
    (at (λ j xs k. arcs_oddly p (suc arc) pss cut.1 xs j cut.4 k) i parts.first parts.second firsts seconds parts.first_kept
    parts.second_kept)
  where
    at : ((j : ℕ) (xs : List Chain) → AreKept cut.1 xs → is_list_crossed_oddly p (get_or (arcs_now (suc arc) pss xs) j [])
        ≡ is_arc_crossed_oddly p (suc arc + j) xs) → (i : ℕ) (here later : List Chain) → EachOf (λ k. k.first.arc ≡ arc) here
        → EachOf (λ k. suc arc ≤ k.first.arc) later → AreKept cut.0 here → AreKept cut.1 later
        → is_list_crossed_oddly p (get_or (arcs_now arc (ps ∷ pss) (here ++ later)) i []) ≡ is_arc_crossed_oddly p (arc + i) (here ++ later)
    at more zero here later firsts seconds h k =
        ap (λ (xs : List Chain). is_list_crossed_oddly p (joined_arc ps xs)) (taken arc here later firsts seconds)
        ∙ list_oddly p arc ps cut.0 here cut.3 h
        ∙ sym
        (ap (λ (n : ℕ). is_arc_crossed_oddly p n (here ++ later)) (same_number arc)
        ∙ arc_append p arc here later
        ∙ ap (λ (t : Bool). differ (is_arc_crossed_oddly p arc here) t)
        (arc_none p arc later (of_mapped (λ k. suc arc ≤ k.first.arc) (λ k. k.first.arc ≢ arc) (λ k m e. past arc k.first.arc m e) later
        seconds))
        ∙ differ_false (is_arc_crossed_oddly p arc here)
        ∙ arc_all p arc here firsts)
      where
        same_number : (n : ℕ) → n + 0 ≡ n
        same_number n = omega arith

        past : (n m : ℕ) → suc n ≤ m → m ≡ n → ⊥
        past n m h e = omega arith
    at more (suc j) here later firsts seconds h k =
        ap (λ (xs : List Chain). is_list_crossed_oddly p (get_or (arcs_now (suc arc) pss xs) j []))
        (left_over arc here later firsts seconds)
        ∙ more j later k
        ∙ ap (λ (n : ℕ). is_arc_crossed_oddly p n later) (moved arc j)
        ∙ sym
        (arc_append p (arc + suc j) here later
        ∙ ap (λ (t : Bool). differ t (is_arc_crossed_oddly p (arc + suc j) later))
        (arc_none p (arc + suc j) here (of_mapped (λ k. k.first.arc ≡ arc) (λ k. k.first.arc ≢ arc + suc j) (λ k m e.
        apart arc j k.first.arc m e) here firsts)))
      where
        moved : (n j : ℕ) → suc n + j ≡ n + suc j
        moved n j = omega arith

        apart : (n j m : ℕ) → m ≡ n → m ≡ n + suc j → ⊥
        apart n j m e f = omega arith

pub parity_of_arcs : ParityOfArcs
parity_of_arcs m before chains cut kept p arc = arcs_oddly p 0 m.arcs before chains arc cut kept
    ∙ ap (λ (n : ℕ). is_arc_crossed_oddly p n chains) (none_more arc)
  where
    none_more : (n : ℕ) → 0 + n ≡ n
    none_more n = omega arith
