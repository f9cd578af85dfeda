-- The arcs that thinned chains make up.
use Rattle.std.proofs.Common.{◌≡◌, inl, inr, ℕ, suc, ◌<◌, ◌≤◌, Bool, true, false, nat_eq, nat_lt, List, [], ◌∷◌, ◌++◌, map, refl, sym, ap}
use Rattle.std.proofs.Common.{subst, ◌∙◌, arith}
use Rattle.std.proofs.lemmas.Bool.Decides.{nat_tests}
use Rattle.std.specs.Prelude.{Contains}
use Rattle.grid_exact.specs.Geometry.{Place, IsOnSegment}
use Rattle.grid_exact.specs.Walks.{EachEdge, end_of}
use Rattle.arc_map.specs.Vertices.{Vertex, places, MayJoin, MeetLawfully}
use Rattle.arc_map.specs.Vertices.MayJoin.{One, BothEnd}
use Rattle.arc_map.specs.Vertices.IsJunction.{Starts, StartAndEnd, EndAndStart, Ends}
use Rattle.arc_map.specs.Chains.{Chain}
use Rattle.arc_map.specs.Edges.{Edge, edges_of, edges_of_all, EachOf, EachTwo, ClashOnlyIfHeld, EdgesAreArranged}
use Rattle.arc_map.specs.Arcs.{vertex, vertices_from, edges_of_list, edges_of_arcs, IsCutInto, IsListCutInto, AreChainsOf, IsKept, AreKept}
use Rattle.arc_map.specs.Arcs.{chains_of_arc, chains_past_arc, joined_rests, joined_arc, arcs_now}
use Rattle.monotone_split.proofs.Cuts.{IsNumberedOn, numbered_from, edges_of-append, edges_of_list-cut, edges_of_all-append, parts_of_arc}
use Rattle.monotone_split.proofs.Cuts.{parts_of_arcs}
use Rattle.monotone_split.proofs.Arranged.{arranged_by_chains, of_both}
use Rattle.monotone_split.specs.Laws.{JoinedArcsAreArranged}

-- ---- vertices that are numbered anew

abbrev pub renumbered : (Vertex → ℕ) → Vertex → Vertex
renumbered number v = record { arc = v.arc; at = number v; is_end = v.is_end; place = v.place }

abbrev pub edge_renumbered : (Vertex → ℕ) → Edge → Edge
edge_renumbered number e = record { start = renumbered number e.start; end = renumbered number e.end }

join_renumbered : (number : Vertex → ℕ) (v w : Vertex) → MayJoin v w → MayJoin (renumbered number v) (renumbered number w)
join_renumbered number v w (One e) = One (ap (renumbered number) e)
join_renumbered number v w (BothEnd e f) = BothEnd e f

lawful_renumbered : (number : Vertex → ℕ) (a b c d : Vertex) → MeetLawfully a b c d
    → MeetLawfully (renumbered number a) (renumbered number b) (renumbered number c) (renumbered number d)
lawful_renumbered number a b c d lawful h =
    elim (lawful h) [
      | Starts e f m ↦ Starts e f (join_renumbered number a c m)
      | StartAndEnd e f m ↦ StartAndEnd e f (join_renumbered number a d m)
      | EndAndStart e f m ↦ EndAndStart e f (join_renumbered number b c m)
      | Ends e f m ↦ Ends e f (join_renumbered number b d m)
    ]

of_renumbered : (P Q : Edge → Type 0) (number : Vertex → ℕ) → ((e : Edge) → P e → Q (edge_renumbered number e)) → (es : List Edge)
    → EachOf P es → EachOf Q (map (edge_renumbered number) es)
of_renumbered P Q number f [] h = tt
of_renumbered P Q number f (e ∷ es) h = (f e h.0, of_renumbered P Q number f es h.1)

clash_renumbered : (held : List ℕ) (number : Vertex → ℕ) (e f : Edge) → ClashOnlyIfHeld held e f
    → ClashOnlyIfHeld held (edge_renumbered number e) (edge_renumbered number f)
clash_renumbered held number e f (inl h) = inl h
clash_renumbered held number e f (inr h) = inr (lawful_renumbered number e.start e.end f.start f.end h)

two_renumbered : (held : List ℕ) (number : Vertex → ℕ) (es : List Edge) → EachTwo (ClashOnlyIfHeld held) es
    → EachTwo (ClashOnlyIfHeld held) (map (edge_renumbered number) es)
two_renumbered held number [] h = tt
two_renumbered held number (e ∷ es) h = (
  of_renumbered (ClashOnlyIfHeld held e) (ClashOnlyIfHeld held (edge_renumbered number e)) number
      (λ f k. clash_renumbered held number e f k) es h.0,
  two_renumbered held number es h.1,
)

pub arranged_renumbered : (held : List ℕ) (number : Vertex → ℕ) (es : List Edge) (points : List Place) → EdgesAreArranged held es points
    → EdgesAreArranged held (map (edge_renumbered number) es) points
arranged_renumbered held number es points h =
    record {
      pairs = two_renumbered held number es h.pairs;
      off = λ p point. of_renumbered (λ e. IsOnSegment e.start.place e.end.place p
          → Contains held e.start.arc) (λ e. IsOnSegment e.start.place e.end.place p
          → Contains held e.start.arc) number (λ e k. k) es (h.off p point);
    }

-- ---- kept vertices of a numbered walk

-- numbers rise along the walk
abbrev RisesFrom : Vertex → Vertex → Type 0
RisesFrom a b = (a.arc ≡ b.arc) × (a.at < b.at)

numbered_rises : (v : Vertex) (ws : List Vertex) → EachEdge IsNumberedOn v ws → EachEdge RisesFrom v ws
numbered_rises v [] h = tt
numbered_rises v (w ∷ ws) h = let step = h.0.1 in ((h.0.0, omega arith), numbered_rises w ws h.1)

rises_over : (v w : Vertex) (ws : List Vertex) → RisesFrom v w → EachEdge RisesFrom w ws → EachEdge RisesFrom v ws
rises_over v w [] h k = tt
rises_over v w (x ∷ xs) h k = let a = h.1 in let b = k.0.1 in ((h.0 ∙ k.0.0, omega arith), k.1)

kept_rises : (v : Vertex) (ws us : List Vertex) → EachEdge RisesFrom v ws → IsKept ws us → EachEdge RisesFrom v us
kept_rises v [] [] h k = tt
kept_rises v [] (u ∷ us) h k = absurd k
kept_rises v (w ∷ ws) [] h k = absurd k
kept_rises v (w ∷ ws) (u ∷ us) h (inl k) =
    (subst (λ (x : Vertex). RisesFrom v x) k.0 h.0, subst (λ (x : Vertex). EachEdge RisesFrom x us) k.0 (kept_rises w ws us h.1 k.1))
kept_rises v (w ∷ ws) (u ∷ us) h (inr k) = kept_rises v ws (u ∷ us) (rises_over v w ws h.0 h.1) k

-- only the last vertex ends the arc
abbrev OnlyLastEnds : List Vertex → Type 0
OnlyLastEnds [] = Unit {0}
OnlyLastEnds (v ∷ []) = v.is_end ≡ true
OnlyLastEnds (v ∷ w ∷ ws) = (v.is_end ≡ false) × OnlyLastEnds (w ∷ ws)

only_later : (w : Vertex) (ws : List Vertex) (u : Vertex) (us : List Vertex) → OnlyLastEnds (w ∷ ws) → IsKept ws (u ∷ us) → OnlyLastEnds ws
only_later w [] u us h k = absurd k
only_later w (x ∷ xs) u us h k = h.1

kept_only : (ws us : List Vertex) → OnlyLastEnds ws → IsKept ws us → OnlyLastEnds us
kept_only [] [] h k = tt
kept_only [] (u ∷ us) h k = absurd k
kept_only (w ∷ ws) [] h k = absurd k
kept_only (w ∷ []) (u ∷ []) h (inl k) = subst (λ (x : Vertex). x.is_end ≡ true) k.0 h
kept_only (w ∷ []) (u ∷ x ∷ xs) h (inl k) = absurd k.1
kept_only (w ∷ y ∷ ys) (u ∷ []) h (inl k) = absurd k.1
kept_only (w ∷ y ∷ ys) (u ∷ x ∷ xs) h (inl k) = (subst (λ (z : Vertex). z.is_end ≡ false) k.0 h.0, kept_only (y ∷ ys) (x ∷ xs) h.1 k.1)
kept_only (w ∷ ws) (u ∷ us) h (inr k) = kept_only ws (u ∷ us) (only_later w ws u us h k) k

only_last_from : (arc at : ℕ) (ps : List Place) → OnlyLastEnds (vertices_from arc (suc at) ps)
only_last_from arc at [] = tt
only_last_from arc at (p ∷ []) = refl
only_last_from arc at (p ∷ q ∷ []) = (refl, refl)
only_last_from arc at (p ∷ q ∷ r ∷ rs) = (refl, only_last_from arc (suc at) (q ∷ r ∷ rs))

-- ---- the number of a kept vertex: how many come before it

abbrev rank : List Vertex → ℕ → ℕ
rank [] n = 0
rank (x ∷ xs) n = elim (nat_lt x.at n) [ true ↦ suc (rank xs n) | false ↦ 0 ]

rank_past : (x : Vertex) (xs : List Vertex) (n : ℕ) → x.at < n → rank (x ∷ xs) n ≡ suc (rank xs n)
rank_past x xs n h = ap (λ (t : Bool). elim t [ true ↦ suc (rank xs n) | false ↦ 0 ]) (lt_test x.at n h)
  where
    lt_test : (m n : ℕ) → m < n → nat_lt m n ≡ true
    lt_test m n h = grind (arith, nat_tests)

rank_here : (x : Vertex) (xs : List Vertex) → rank (x ∷ xs) x.at ≡ 0
rank_here x xs = ap (λ (t : Bool). elim t [ true ↦ suc (rank xs x.at) | false ↦ 0 ]) (no_test x.at)
  where
    no_test : (m : ℕ) → nat_lt m m ≡ false
    no_test m = grind (arith, nat_tests)

-- each vertex of a rising walk has the next number
abbrev NumbersOn : (ℕ → ℕ) → Vertex → Vertex → Type 0
NumbersOn number a b = number b.at ≡ suc (number a.at)

numbers_more : (v : Vertex) (vs : List Vertex) (w : Vertex) (ws : List Vertex) → v.at < w.at → EachEdge RisesFrom w ws
    → EachEdge (NumbersOn (rank vs)) w ws → EachEdge (NumbersOn (rank (v ∷ vs))) w ws
numbers_more v vs w [] h rises k = tt
numbers_more v vs w (x ∷ xs) h rises k =
    let step = rises.0.1 in
    let later : v.at < x.at = omega arith in
    (rank_past v vs x.at later ∙ ap suc k.0 ∙ ap suc (sym (rank_past v vs w.at h)), numbers_more v vs x xs later rises.1 k.1)

rank_numbers : (v : Vertex) (ws : List Vertex) → EachEdge RisesFrom v ws → EachEdge (NumbersOn (rank (v ∷ ws))) v ws
rank_numbers v [] rises = tt
rank_numbers v (w ∷ ws) rises = (
  rank_past v (w ∷ ws) w.at rises.0.1 ∙ ap suc (rank_here w ws) ∙ ap suc (sym (rank_here v (w ∷ ws))),
  numbers_more v (w ∷ ws) w ws rises.0.1 rises.1 (rank_numbers w ws rises.1),
)

-- the vertices of the arc of these places are the kept ones, numbered anew
vertices_renumbered : (number : ℕ → ℕ) (arc n : ℕ) (v : Vertex) (ws : List Vertex) → v.arc ≡ arc → number v.at ≡ suc n
    → OnlyLastEnds (v ∷ ws) → EachEdge RisesFrom v ws → EachEdge (NumbersOn number) v ws
    → vertices_from arc (suc n) (places (v ∷ ws)) ≡ map (renumbered (λ x. number x.at)) (v ∷ ws)
vertices_renumbered number arc n v [] one at ends rises numbers = ap (λ (x : Vertex). x ∷ []) (same one at ends)
  where
    same : v.arc ≡ arc → number v.at ≡ suc n → v.is_end ≡ true → vertex arc (suc n) true v.place ≡ renumbered (λ x. number x.at) v
    same e f g = ap (λ (a : ℕ). vertex a (suc n) true v.place) (sym e) ∙ ap (λ (m : ℕ). vertex v.arc m true v.place) (sym f)
        ∙ ap (λ (t : Bool). vertex v.arc (number v.at) t v.place) (sym g)
vertices_renumbered number arc n v (w ∷ ws) one at ends rises numbers =
    ap (λ (x : Vertex). x ∷ vertices_from arc (suc (suc n)) (places (w ∷ ws))) (same one at ends.0)
    ∙ ap (λ (xs : List Vertex). renumbered (λ x. number x.at) v ∷ xs)
    (vertices_renumbered number arc (suc n) w ws (sym rises.0.0 ∙ one) (numbers.0 ∙ ap suc at) ends.1 rises.1 numbers.1)
  where
    same : v.arc ≡ arc → number v.at ≡ suc n → v.is_end ≡ false → vertex arc (suc n) false v.place ≡ renumbered (λ x. number x.at) v
    same e f g = ap (λ (a : ℕ). vertex a (suc n) false v.place) (sym e) ∙ ap (λ (m : ℕ). vertex v.arc m false v.place) (sym f)
        ∙ ap (λ (t : Bool). vertex v.arc (number v.at) t v.place) (sym g)

edges_of-renumbered : (number : Vertex → ℕ) (v : Vertex) (ws : List Vertex)
    → edges_of (renumbered number v) (map (renumbered number) ws) ≡ map (edge_renumbered number) (edges_of v ws)
edges_of-renumbered number v [] = refl
edges_of-renumbered number v (w ∷ ws) = ap (λ (es : List Edge). record { start = renumbered number v; end = renumbered number w } ∷ es)
    (edges_of-renumbered number w ws)

-- ---- kept vertices

kept_append : (xs ys zs ds : List Vertex) → IsKept xs zs → IsKept ys ds → IsKept (xs ++ ys) (zs ++ ds)
kept_append [] ys [] ds h k = k
kept_append [] ys (c ∷ zs) ds h k = absurd h
kept_append (a ∷ xs) ys [] ds h k = absurd h
kept_append (a ∷ xs) ys (c ∷ zs) ds (inl h) k = inl (h.0, kept_append xs ys zs ds h.1 k)
kept_append (a ∷ xs) ys (c ∷ zs) ds (inr h) k = inr (kept_append xs ys (c ∷ zs) ds h k)

pub kept_twice : (xs ys zs : List Vertex) → IsKept xs ys → IsKept ys zs → IsKept xs zs
kept_twice [] [] zs h k = k
kept_twice [] (b ∷ ys) zs h k = absurd h
kept_twice (a ∷ xs) [] zs h k = absurd h
kept_twice (a ∷ xs) (b ∷ ys) [] h k = absurd k
kept_twice (a ∷ xs) (b ∷ ys) (c ∷ zs) (inl h) (inl k) = inl (h.0 ∙ k.0, kept_twice xs ys zs h.1 k.1)
kept_twice (a ∷ xs) (b ∷ ys) (c ∷ zs) (inl h) (inr k) = inr (kept_twice xs ys (c ∷ zs) h.1 k)
kept_twice (a ∷ xs) (b ∷ ys) (c ∷ zs) (inr h) k = inr (kept_twice xs (b ∷ ys) (c ∷ zs) h k)

pub kept_itself : (ws : List Vertex) → IsKept ws ws
kept_itself [] = tt
kept_itself (w ∷ ws) = inl (refl, kept_itself ws)

pub kept_last : (v : Vertex) (ws us : List Vertex) → IsKept ws us → end_of v us ≡ end_of v ws
kept_last v [] [] h = refl
kept_last v [] (u ∷ us) h = absurd h
kept_last v (w ∷ ws) [] h = absurd h
kept_last v (w ∷ ws) (u ∷ us) (inl h) = ap (λ (x : Vertex). end_of x us) (sym h.0) ∙ kept_last w ws us h.1
kept_last v (w ∷ ws) (u ∷ us) (inr h) = kept_last w ws (u ∷ us) h

-- ---- one arc

pub cut_joined : (v : Vertex) (ws : List Vertex) (ks : List Chain) → IsCutInto v ws ks → ws ≡ joined_rests ks
cut_joined v ws [] cut = cut
cut_joined v ws (k ∷ ks) cut = cut.3 ∙ ap (λ (us : List Vertex). k.rest ++ us) (cut_joined (end_of v k.rest) cut.2 ks cut.4)

rests_kept : (ks ls : List Chain) → AreKept ks ls → IsKept (joined_rests ks) (joined_rests ls)
rests_kept [] [] h = tt
rests_kept [] (l ∷ ls) h = absurd h
rests_kept (k ∷ ks) [] h = absurd h
rests_kept (k ∷ ks) (l ∷ ls) h = kept_append k.rest (joined_rests ks) l.rest (joined_rests ls) h.1 (rests_kept ks ls h.2)

edges_joined : (v : Vertex) (ws : List Vertex) (ks ls : List Chain) → IsCutInto v ws ks → AreKept ks ls
    → edges_of_all ls ≡ edges_of v (joined_rests ls)
edges_joined v ws [] [] cut h = refl
edges_joined v ws [] (l ∷ ls) cut h = absurd h
edges_joined v ws (k ∷ ks) [] cut h = absurd h
edges_joined v ws (k ∷ ks) (l ∷ ls) cut h =
    ap (λ (x : Vertex). edges_of x l.rest ++ edges_of_all ls) (h.0 ∙ cut.0)
    ∙ ap (λ (es : List Edge). edges_of v l.rest ++ es) (edges_joined (end_of v k.rest) cut.2 ks ls cut.4 h.2
    ∙ ap (λ (x : Vertex). edges_of x (joined_rests ls)) (sym (kept_last v k.rest l.rest h.1)))
    ∙ sym (edges_of-append v l.rest (joined_rests ls))

abbrev IsOfArc : ℕ → Edge → Type 0
IsOfArc arc e = (e.start.arc ≡ arc) × (e.end.arc ≡ arc)

edges_of_arc : (arc : ℕ) (v : Vertex) (ws : List Vertex) → v.arc ≡ arc → EachEdge RisesFrom v ws → EachOf (IsOfArc arc) (edges_of v ws)
edges_of_arc arc v [] e h = tt
edges_of_arc arc v (w ∷ ws) e h = ((e, sym h.0.0 ∙ e), edges_of_arc arc w ws (sym h.0.0 ∙ e) h.1)

record ArcNow (arc : ℕ) (ps : List Place) (ls : List Chain) : Type 0 where
  number : Vertex → ℕ
  same : edges_of_list (vertices_from arc 0 (joined_arc ps ls)) ≡ map (edge_renumbered number) (edges_of_all ls)
  arcs : EachOf (IsOfArc arc) (edges_of_all ls)

-- the edges of the places of kept vertices are the kept edges, numbered anew
kept_edges : (arc : ℕ) (v : Vertex) (us : List Vertex) → v.arc ≡ arc → v.is_end ≡ true → OnlyLastEnds us → EachEdge RisesFrom v us
    → edges_of_list (vertices_from arc 0 (v.place ∷ places us)) ≡ map (edge_renumbered (λ x. rank (v ∷ us) x.at)) (edges_of v us)
kept_edges arc v [] one ends only rises = refl
kept_edges arc v (u ∷ us) one ends only rises =
    let numbers = rank_numbers v (u ∷ us) rises in
    ap (λ (x : Vertex). edges_of x (vertices_from arc 1 (places (u ∷ us)))) (same one ends (rank_here v (u ∷ us)))
    ∙ ap (λ (xs : List Vertex). edges_of (renumbered (λ x. rank (v ∷ u ∷ us) x.at) v) xs)
    (vertices_renumbered (rank (v ∷ u ∷ us)) arc 0 u us (sym rises.0.0 ∙ one) (numbers.0 ∙ ap suc (rank_here v (u ∷ us))) only rises.1
    numbers.1)
    ∙ edges_of-renumbered (λ x. rank (v ∷ u ∷ us) x.at) v (u ∷ us)
  where
    same : v.arc ≡ arc → v.is_end ≡ true → rank (v ∷ u ∷ us) v.at ≡ 0
        → vertex arc 0 true v.place ≡ renumbered (λ x. rank (v ∷ u ∷ us) x.at) v
    same e g f = ap (λ (a : ℕ). vertex a 0 true v.place) (sym e) ∙ ap (λ (m : ℕ). vertex v.arc m true v.place) (sym f)
        ∙ ap (λ (t : Bool). vertex v.arc (rank (v ∷ u ∷ us) v.at) t v.place) (sym g)

arc_of_walk : (arc : ℕ) (ps : List Place) (v : Vertex) (ws : List Vertex) (k : Chain) (ks : List Chain) (l : Chain) (ls : List Chain)
    → v.arc ≡ arc → v.is_end ≡ true → OnlyLastEnds ws → EachEdge IsNumberedOn v ws → IsCutInto v ws (k ∷ ks) → AreKept (k ∷ ks) (l ∷ ls)
    → ArcNow arc ps (l ∷ ls)
arc_of_walk arc ps v ws k ks l ls one ends only numbered cut kept =
    let us = joined_rests (l ∷ ls) in
    let all : IsKept ws (joined_rests (l ∷ ls)) = subst (λ (xs : List Vertex). IsKept xs (joined_rests (l ∷ ls)))
    (sym (cut_joined v ws (k ∷ ks) cut)) (rests_kept (k ∷ ks) (l ∷ ls) kept) in
    let rises : EachEdge RisesFrom v (joined_rests (l ∷ ls)) = kept_rises v ws (joined_rests (l ∷ ls)) (numbered_rises v ws numbered) all in
    let joined : edges_of_all (l ∷ ls) ≡ edges_of v (joined_rests (l ∷ ls)) = edges_joined v ws (k ∷ ks) (l ∷ ls) cut kept in
    record {
      number = λ x. rank (v ∷ joined_rests (l ∷ ls)) x.at;
      same =
          ap (λ (x : Vertex). edges_of_list (vertices_from arc 0 (x.place ∷ places (joined_rests (l ∷ ls))))) (kept.0 ∙ cut.0)
          ∙ kept_edges arc v (joined_rests (l ∷ ls)) one ends (kept_only ws (joined_rests (l ∷ ls)) only all) rises
          ∙ ap (map (edge_renumbered (λ x. rank (v ∷ joined_rests (l ∷ ls)) x.at))) (sym joined);
      arcs = subst (λ (es : List Edge). EachOf (IsOfArc arc) es) (sym joined) (edges_of_arc arc v (joined_rests (l ∷ ls)) one rises);
    }

arc_now : (arc : ℕ) (ps : List Place) (ks ls : List Chain) → IsListCutInto (vertices_from arc 0 ps) ks → AreKept ks ls → ArcNow arc ps ls
arc_now arc ps [] [] cut kept = record { number = λ x. 0; same = sym (edges_of_list-cut (vertices_from arc 0 ps) [] cut); arcs = tt }
arc_now arc ps [] (l ∷ ls) cut kept = absurd kept
arc_now arc ps (k ∷ ks) [] cut kept = absurd kept
arc_now arc [] (k ∷ ks) (l ∷ ls) cut kept = absurd (none k ks cut)
  where
    none : (k : Chain) (ks : List Chain) → k ∷ ks ≡ [] → ⊥
    none k ks e = cc
arc_now arc (p ∷ []) (k ∷ ks) (l ∷ ls) cut kept = arc_of_walk arc (p ∷ []) (vertex arc 0 true p) [] k ks l ls refl refl tt tt cut kept
arc_now arc (p ∷ q ∷ qs) (k ∷ ks) (l ∷ ls) cut kept = arc_of_walk arc (p ∷ q ∷ qs) (vertex arc 0 true p) (vertices_from arc 1 (q ∷ qs)) k ks
    l ls refl refl (only_last_from arc 0 (q ∷ qs)) (numbered_from arc 0 true p (q ∷ qs)) cut kept

-- ---- all arcs

pub record KeptParts (here later ls : List Chain) : Type 0 where
  pub first : List Chain
  pub second : List Chain
  pub whole : ls ≡ first ++ second
  pub first_kept : AreKept here first
  pub second_kept : AreKept later second

pub kept_parts : (here later ls : List Chain) → AreKept (here ++ later) ls → KeptParts here later ls
kept_parts [] later ls h = record { first = []; second = ls; whole = refl; first_kept = tt; second_kept = h }
kept_parts (k ∷ ks) later [] h = absurd h
kept_parts (k ∷ ks) later (l ∷ ls) h =
    let rest = kept_parts ks later ls h.2 in
    record {
      first = l ∷ rest.first;
      second = rest.second;
      whole = ap (λ (xs : List Chain). l ∷ xs) rest.whole;
      first_kept =
          (h.0, h.1, rest.first_kept);
      second_kept = rest.second_kept;
    }

pub kept_firsts : (P : Vertex → Type 0) (ks ls : List Chain) → EachOf (λ k. P k.first) ks → AreKept ks ls → EachOf (λ k. P k.first) ls
kept_firsts P [] [] h k = tt
kept_firsts P [] (l ∷ ls) h k = absurd k
kept_firsts P (x ∷ xs) [] h k = absurd k
kept_firsts P (x ∷ xs) (l ∷ ls) h k = (subst P (sym k.0) h.0, kept_firsts P xs ls h.1 k.2)

pub eq_test : (m n : ℕ) → m ≡ n → nat_eq m n ≡ true
eq_test m n e = grind (arith, nat_tests)

other_test : (m n : ℕ) → suc n ≤ m → nat_eq m n ≡ false
other_test m n h = grind (arith, nat_tests)

pub taken : (arc : ℕ) (here later : List Chain) → EachOf (λ k. k.first.arc ≡ arc) here → EachOf (λ k. suc arc ≤ k.first.arc) later
    → chains_of_arc arc (here ++ later) ≡ here
taken arc [] [] h k = refl
taken arc [] (x ∷ xs) h k = ap (λ (t : Bool). elim t [ true ↦ x ∷ chains_of_arc arc xs | false ↦ [] ]) (other_test x.first.arc arc k.0)
taken arc (x ∷ xs) later h k = ap (λ (t : Bool). elim t [ true ↦ x ∷ chains_of_arc arc (xs ++ later) | false ↦ [] ])
    (eq_test x.first.arc arc h.0) ∙ ap (λ (ys : List Chain). x ∷ ys) (taken arc xs later h.1 k)

pub left_over : (arc : ℕ) (here later : List Chain) → EachOf (λ k. k.first.arc ≡ arc) here → EachOf (λ k. suc arc ≤ k.first.arc) later
    → chains_past_arc arc (here ++ later) ≡ later
left_over arc [] [] h k = refl
left_over arc [] (x ∷ xs) h k = ap (λ (t : Bool). elim t [ true ↦ chains_past_arc arc xs | false ↦ x ∷ xs ])
    (other_test x.first.arc arc k.0)
left_over arc (x ∷ xs) later h k = ap (λ (t : Bool). elim t [ true ↦ chains_past_arc arc (xs ++ later) | false ↦ x ∷ (xs ++ later) ])
    (eq_test x.first.arc arc h.0) ∙ left_over arc xs later h.1 k

map-append' : (f : Edge → Edge) (xs ys : List Edge) → map f (xs ++ ys) ≡ map f xs ++ map f ys
map-append' f [] ys = refl
map-append' f (x ∷ xs) ys = ap (λ (zs : List Edge). f x ∷ zs) (map-append' f xs ys)

map_alike : (f g : Edge → Edge) (es : List Edge) → EachOf (λ e. f e ≡ g e) es → map f es ≡ map g es
map_alike f g [] h = refl
map_alike f g (e ∷ es) h = ap (λ (x : Edge). x ∷ map f es) h.0 ∙ ap (λ (xs : List Edge). g e ∷ xs) (map_alike f g es h.1)

of_alike : (P Q : Edge → Type 0) → ((e : Edge) → P e → Q e) → (es : List Edge) → EachOf P es → EachOf Q es
of_alike P Q f [] h = tt
of_alike P Q f (e ∷ es) h = (f e h.0, of_alike P Q f es h.1)

renumbered_alike : (f g : Vertex → ℕ) (e : Edge) → f e.start ≡ g e.start → f e.end ≡ g e.end → edge_renumbered f e ≡ edge_renumbered g e
renumbered_alike f g e h k =
    ap (λ (n : ℕ). both (record { arc = e.start.arc; at = n; is_end = e.start.is_end; place = e.start.place }) (renumbered f e.end)) h
    ∙ ap (λ (n : ℕ). both (renumbered g e.start) (record { arc = e.end.arc; at = n; is_end = e.end.is_end; place = e.end.place })) k
  where
    both : Vertex → Vertex → Edge
    both v w = record { start = v; end = w }

-- the number of a vertex of the arc by the first, else by the second
abbrev number_by : ℕ → (Vertex → ℕ) → (Vertex → ℕ) → Vertex → ℕ
number_by arc f g v = elim (nat_eq v.arc arc) [ true ↦ f v | false ↦ g v ]

by_first : (arc : ℕ) (f g : Vertex → ℕ) (v : Vertex) → v.arc ≡ arc → number_by arc f g v ≡ f v
by_first arc f g v e = ap (λ (t : Bool). elim t [ true ↦ f v | false ↦ g v ]) (eq_test v.arc arc e)

by_second : (arc : ℕ) (f g : Vertex → ℕ) (v : Vertex) → suc arc ≤ v.arc → number_by arc f g v ≡ g v
by_second arc f g v h = ap (λ (t : Bool). elim t [ true ↦ f v | false ↦ g v ]) (other_test v.arc arc h)

abbrev IsFromArc : ℕ → Edge → Type 0
IsFromArc arc e = (arc ≤ e.start.arc) × (arc ≤ e.end.arc)

record ArcsNow (arc : ℕ) (pss : List (List Place)) (ls : List Chain) : Type 0 where
  number : Vertex → ℕ
  same : edges_of_arcs arc (arcs_now arc pss ls) ≡ map (edge_renumbered number) (edges_of_all ls)
  arcs : EachOf (IsFromArc arc) (edges_of_all ls)

all_arcs : (arc : ℕ) (pss : List (List Place)) (ks ls : List Chain) → AreChainsOf arc pss ks → AreKept ks ls → ArcsNow arc pss ls
all_arcs arc [] ks [] cut kept = record { number = λ x. 0; same = refl; arcs = tt }
all_arcs arc [] ks (l ∷ ls) cut kept = absurd (subst (λ (xs : List Chain). AreKept xs (l ∷ ls)) cut kept)
all_arcs arc (ps ∷ pss) ks ls cut kept =
    let parts = kept_parts cut.0 cut.1 ls (subst (λ (xs : List Chain). AreKept xs ls) cut.2 kept) in
    let here = arc_now arc ps cut.0 parts.first cut.3 parts.first_kept in
    let later = all_arcs (suc arc) pss cut.1 parts.second cut.4 parts.second_kept in
    let firsts = kept_firsts (λ v. v.arc ≡ arc) cut.0 parts.first (parts_of_arc arc ps cut.0 cut.3).arcs parts.first_kept in
    let seconds = kept_firsts (λ v. suc arc ≤ v.arc) cut.1 parts.second (parts_of_arcs (suc arc) pss cut.1 cut.4).arcs parts.second_kept in
    let number = number_by arc here.number later.number in
    subst (λ (xs : List Chain). ArcsNow arc (ps ∷ pss) xs) (sym parts.whole)
    (record {
      number = number_by arc here.number later.number;
      same =
          ap (λ (xs : List Chain). edges_of_list (vertices_from arc 0 (joined_arc ps xs))
          ++ edges_of_arcs (suc arc) (arcs_now (suc arc) pss (chains_past_arc arc (parts.first ++ parts.second))))
          (taken arc parts.first parts.second firsts seconds)
          ∙ ap (λ (xs : List Chain). edges_of_list (vertices_from arc 0 (joined_arc ps parts.first))
          ++ edges_of_arcs (suc arc) (arcs_now (suc arc) pss xs)) (left_over arc parts.first parts.second firsts seconds)
          ∙ ap (λ (es : List Edge). es ++ edges_of_arcs (suc arc) (arcs_now (suc arc) pss parts.second)) (here.same
          ∙ map_alike (edge_renumbered here.number) (edge_renumbered (number_by arc here.number later.number))
          (edges_of_all parts.first) (of_alike (IsOfArc arc) (λ e.
          edge_renumbered here.number e ≡ edge_renumbered (number_by arc here.number later.number) e) (λ e h.
          renumbered_alike here.number (number_by arc here.number later.number) e
          (sym (by_first arc here.number later.number e.start h.0)) (sym (by_first arc here.number later.number e.end h.1)))
          (edges_of_all parts.first) here.arcs))
          ∙ ap (λ (es : List Edge). map (edge_renumbered (number_by arc here.number later.number)) (edges_of_all parts.first) ++ es)
          (later.same ∙ map_alike (edge_renumbered later.number) (edge_renumbered (number_by arc here.number later.number))
          (edges_of_all parts.second) (of_alike (IsFromArc (suc arc)) (λ e.
          edge_renumbered later.number e ≡ edge_renumbered (number_by arc here.number later.number) e) (λ e h.
          renumbered_alike later.number (number_by arc here.number later.number) e
          (sym (by_second arc here.number later.number e.start h.0)) (sym (by_second arc here.number later.number e.end h.1)))
          (edges_of_all parts.second) later.arcs))
          ∙ sym (map-append' (edge_renumbered (number_by arc here.number later.number)) (edges_of_all parts.first)
          (edges_of_all parts.second))
          ∙ ap (map (edge_renumbered (number_by arc here.number later.number))) (sym (edges_of_all-append parts.first parts.second));
      arcs =
          subst (λ (es : List Edge). EachOf (IsFromArc arc) es) (sym (edges_of_all-append parts.first parts.second))
          (of_both (IsFromArc arc) (edges_of_all parts.first) (edges_of_all parts.second)
          (of_alike (IsOfArc arc) (IsFromArc arc) (λ e h. let a = h.0 in let b = h.1 in (omega arith, omega arith))
          (edges_of_all parts.first) here.arcs)
          (of_alike (IsFromArc (suc arc)) (IsFromArc arc) (λ e h. let a = h.0 in let b = h.1 in (omega arith, omega arith))
          (edges_of_all parts.second) later.arcs));
    })

pub joined_arcs_are_arranged : JoinedArcsAreArranged
joined_arcs_are_arranged m before ks cut kept are held arranged =
    let now = all_arcs 0 m.arcs before ks cut kept in
    subst (λ (es : List Edge). EdgesAreArranged held es m.points) (sym now.same)
    (arranged_renumbered held now.number (edges_of_all ks) m.points ((arranged_by_chains held ks m.points are).1 arranged))
