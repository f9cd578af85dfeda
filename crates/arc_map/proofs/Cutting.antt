-- What holds of the chains into which the arcs of a map are cut: each runs one way, each begins where the one before
-- it in its arc ends, and they are no more than there are positions.
use Rattle.std.proofs.Common.{◌≡◌, ◌≢◌, ◌∙◌, ℕ, suc, ◌<◌, ◌≤◌, List, [], ◌∷◌, ◌++◌, AllPairs, length, get_or, sum_by, refl, sym, ap, subst}
use Rattle.std.proofs.Common.{arith, length-append}
use Rattle.std.specs.List.{AllByRecursion}
use Rattle.std.proofs.lemmas.List.Elements.{All-from_recursion}
use Rattle.std.proofs.lemmas.List.Kept.{AllPairs-cons}
use Rattle.std.proofs.lemmas.List.Sums.{sum_by-cons}
use Rattle.grid_exact.specs.Geometry.{Place, turned}
use Rattle.grid_exact.specs.Frame.{IsBeforeIn}
use Rattle.grid_exact.specs.Walks.{EachEdge, end_of}
use Rattle.grid_exact.specs.declared.frame.Frame.{Frame}
use Rattle.grid_exact.specs.declared.frame.Frame.TheVariants.{Plain, Turned}
use Rattle.grid_exact.proofs.Orders.{then_before, not_before_itself}
use Rattle.arc_map.specs.Vertices.{Vertex, places}
use Rattle.grid_exact.specs.Runs.{IsMonotone}
use Rattle.grid_exact.specs.Runs.IsMonotone.{Increasing, Decreasing}
use Rattle.arc_map.specs.Chains.{Chain}
use Rattle.arc_map.specs.Arcs.{most_edges, vertices_from, IsNextChain, IsCutInto, IsListCutInto, AreChainsOf}
use Rattle.arc_map.specs.Arcs.IsNextChain.{PlainReaches, TurnedReaches}

-- what each chain of a map is
pub record IsRun (k : Chain) : Type 0 where
  pub one_way : IsMonotone k.frame k.first.place (places k.rest)
  pub edge : 0 < length k.rest
  pub short : length k.rest ≤ most_edges

next_run : (v : Vertex) (ws : List Vertex) (k : Chain) → k.first ≡ v → IsNextChain v ws k → 0 < length k.rest → IsRun k
next_run v ws k starts (PlainReaches other frame plain turned longer) edge =
    record { one_way = rw (frame, starts) plain.one_way; edge = edge; short = plain.within }
next_run v ws k starts (TurnedReaches other frame plain turned longer) edge =
    record { one_way = rw (frame, starts) turned.one_way; edge = edge; short = turned.within }

append_all : {X : Type 0} (P : X → Type 0) (xs ys : List X) → AllByRecursion P xs → AllByRecursion P ys → AllByRecursion P (xs ++ ys)
append_all P [] ys first later = later
append_all P (x ∷ xs) ys first later = (first.0, append_all P xs ys first.1 later)

runs_of_walk : (v : Vertex) (ws : List Vertex) (ks : List Chain) → IsCutInto v ws ks → AllByRecursion IsRun ks
runs_of_walk v ws [] cut = tt
runs_of_walk v ws (k ∷ ks) cut = (next_run v ws k cut.0 cut.1 cut.5, runs_of_walk (end_of v k.rest) cut.2 ks cut.4)

runs_of_list : (vs : List Vertex) (ks : List Chain) → IsListCutInto vs ks → AllByRecursion IsRun ks
runs_of_list [] ks cut = rw cut tt
runs_of_list (v ∷ vs) ks cut = runs_of_walk v vs ks cut

pub runs_of_arcs : (arc : ℕ) (pss : List (List Place)) (ks : List Chain) → AreChainsOf arc pss ks → AllByRecursion IsRun ks
runs_of_arcs arc [] ks cut = rw cut tt
runs_of_arcs arc (ps ∷ pss) ks cut =
    rw cut.2 (append_all IsRun cut.0 cut.1 (runs_of_list (vertices_from arc 0 ps) cut.0 cut.3) (runs_of_arcs (suc arc) pss cut.1 cut.4))

-- ---- the places of a run, two by two

pub before_in : (frame : Frame) (a b c : Place) → IsBeforeIn frame a b → IsBeforeIn frame b c → IsBeforeIn frame a c
before_in Plain a b c = then_before a b c
before_in Turned a b c = then_before (turned a) (turned b) (turned c)

not_itself : (frame : Frame) (a b : Place) → IsBeforeIn frame a b → a ≢ b
not_itself Plain a b before same = not_before_itself a b same before
not_itself Turned a b before same = not_before_itself (turned a) (turned b) (ap turned same) before

-- of the places, each is before each later one, or behind it
pub data RunsOneWay (frame : Frame) (ps : List Place) : Type 0 where
  Rises : AllPairs (λ p q. IsBeforeIn frame p q) ps → RunsOneWay frame ps
  Falls : AllPairs (λ p q. IsBeforeIn frame q p) ps → RunsOneWay frame ps

-- the edges of a walk have a relation that goes on: so do any two of its places
pairs_of_edges : {X : Type 0} (R : X → X → Type 0) → ((a b c : X) → R a b → R b c → R a c) → (v : X) (ws : List X) → EachEdge R v ws
    → AllPairs R (v ∷ ws)
pairs_of_edges R goes_on v [] edges = λ i j d before below. absurd (omega arith)
pairs_of_edges {X = X} R goes_on v (w ∷ ws) edges =
    AllPairs-cons R v (w ∷ ws) (All-from_recursion (R v) (w ∷ ws) (behind v w ws edges.0 edges.1)) (pairs_of_edges R goes_on w ws edges.1)
  where
    behind : (a v : X) (ws : List X) → R a v → EachEdge R v ws → AllByRecursion (R a) (v ∷ ws)
    behind a v [] first edges = (first, tt)
    behind a v (w ∷ ws) first edges = (first, behind a w ws (goes_on a v w first edges.0) edges.1)

pub edges_of_pairs : {X : Type 0} (R : X → X → Type 0) (v : X) (ws : List X) → AllPairs R (v ∷ ws) → EachEdge R v ws
edges_of_pairs R v [] pairs = tt
edges_of_pairs R v (w ∷ ws) pairs = (
  pairs 0 1 v (omega arith) (omega arith),
  edges_of_pairs R w ws (λ i j d before below.
      pairs (suc i) (suc j) d (omega arith) (omega arith)),
)

pub pairs_of_run : (frame : Frame) (v : Place) (ws : List Place) → IsMonotone frame v ws → RunsOneWay frame (v ∷ ws)
pairs_of_run frame v ws (Increasing edges) = Rises (pairs_of_edges (λ p q. IsBeforeIn frame p q) (before_in frame) v ws edges)
pairs_of_run frame v ws (Decreasing edges) =
    Falls (pairs_of_edges (λ p q. IsBeforeIn frame q p) (λ a b c first second. before_in frame c b a second first) v ws edges)

pub run_of_pairs : (frame : Frame) (v : Place) (ws : List Place) → RunsOneWay frame (v ∷ ws) → IsMonotone frame v ws
run_of_pairs frame v ws (Rises pairs) = Increasing (edges_of_pairs (λ p q. IsBeforeIn frame p q) v ws pairs)
run_of_pairs frame v ws (Falls pairs) = Decreasing (edges_of_pairs (λ p q. IsBeforeIn frame q p) v ws pairs)

pub distinct_places : (frame : Frame) (ps : List Place) → RunsOneWay frame ps → AllPairs (λ p q. p ≢ q) ps
distinct_places frame ps (Rises pairs) i j d before below = not_itself frame (get_or ps i d) (get_or ps j d) (pairs i j d before below)
distinct_places frame ps (Falls pairs) i j d before below = λ same.
    not_itself frame (get_or ps j d) (get_or ps i d) (pairs i j d before below) (sym same)

-- ---- how many chains there are

count_of_walk : (v : Vertex) (ws : List Vertex) (ks : List Chain) → IsCutInto v ws ks → length ks ≤ length ws
count_of_walk v ws [] cut = omega arith
count_of_walk v ws (k ∷ ks) cut =
    let later = count_of_walk (end_of v k.rest) cut.2 ks cut.4 in
    let parts = ap length cut.3 ∙ length-append k.rest cut.2 in
    let edge = cut.5 in
    omega arith

pub length-vertices_from : (arc at : ℕ) (ps : List Place) → length (vertices_from arc at ps) ≡ length ps
length-vertices_from arc at [] = refl
length-vertices_from arc at (p ∷ []) = refl
length-vertices_from arc at (p ∷ q ∷ ps) = ap suc (length-vertices_from arc (suc at) (q ∷ ps))

count_of_list : (vs : List Vertex) (ks : List Chain) → IsListCutInto vs ks → length ks ≤ length vs
count_of_list [] ks cut = rw cut (omega arith)
count_of_list (v ∷ vs) ks cut = let fewer = count_of_walk v vs ks cut in omega arith

pub count_of_arcs : (arc : ℕ) (pss : List (List Place)) (ks : List Chain) → AreChainsOf arc pss ks → length ks ≤ sum_by length pss
count_of_arcs arc [] ks cut = rw cut (omega arith)
count_of_arcs arc (ps ∷ pss) ks cut =
    let here = count_of_list (vertices_from arc 0 ps) cut.0 cut.3 in
    let size = length-vertices_from arc 0 ps in
    let later = count_of_arcs (suc arc) pss cut.1 cut.4 in
    let parts = ap length cut.2 ∙ length-append cut.0 cut.1 in
    let sum = sum_by-cons length ps pss in
    omega arith

-- ---- each chain begins where the one before it in its arc ends

-- of one arc, each chain ends at the vertex where the next begins
abbrev pub AreLinked : List Chain → Type 0
AreLinked [] = Unit {0}
AreLinked (k ∷ []) = Unit {0}
AreLinked (k ∷ l ∷ ks) = (k.first.arc ≡ l.first.arc → end_of k.first k.rest ≡ l.first) × AreLinked (l ∷ ks)

end_in_arc : (arc : ℕ) (v : Vertex) (ws : List Vertex) → v.arc ≡ arc → AllByRecursion (λ w. w.arc ≡ arc) ws → (end_of v ws).arc ≡ arc
end_in_arc arc v [] same all = same
end_in_arc arc v (w ∷ ws) same all = end_in_arc arc w ws all.0 all.1

first_part : {X : Type 0} (P : X → Type 0) (xs ys : List X) → AllByRecursion P (xs ++ ys) → AllByRecursion P xs
first_part P [] ys all = tt
first_part P (x ∷ xs) ys all = (all.0, first_part P xs ys all.1)

second_part : {X : Type 0} (P : X → Type 0) (xs ys : List X) → AllByRecursion P (xs ++ ys) → AllByRecursion P ys
second_part P [] ys all = all
second_part P (x ∷ xs) ys all = second_part P xs ys all.1

arcs_of_walk : (arc : ℕ) (v : Vertex) (ws : List Vertex) (ks : List Chain) → IsCutInto v ws ks → v.arc ≡ arc
    → AllByRecursion (λ w. w.arc ≡ arc) ws → AllByRecursion (λ k. k.first.arc ≡ arc) ks
arcs_of_walk arc v ws [] cut same all = tt
arcs_of_walk arc v ws (k ∷ ks) cut same all =
    let parts = subst (AllByRecursion (λ (w : Vertex). w.arc ≡ arc)) cut.3 all in
    let here = first_part (λ (w : Vertex). w.arc ≡ arc) k.rest cut.2 parts in
    let behind = second_part (λ (w : Vertex). w.arc ≡ arc) k.rest cut.2 parts in
    (ap (λ (w : Vertex). w.arc) cut.0 ∙ same, arcs_of_walk arc (end_of v k.rest) cut.2 ks cut.4 (end_in_arc arc v k.rest same here) behind)

vertices_in_arc : (arc at : ℕ) (ps : List Place) → AllByRecursion (λ w. w.arc ≡ arc) (vertices_from arc at ps)
vertices_in_arc arc at [] = tt
vertices_in_arc arc at (p ∷ []) = (refl, tt)
vertices_in_arc arc at (p ∷ q ∷ ps) = (refl, vertices_in_arc arc (suc at) (q ∷ ps))

pub arcs_of_list : (arc : ℕ) (vs : List Vertex) (ks : List Chain) → IsListCutInto vs ks → AllByRecursion (λ w. w.arc ≡ arc) vs
    → AllByRecursion (λ k. k.first.arc ≡ arc) ks
arcs_of_list arc [] ks cut all = rw cut tt
arcs_of_list arc (v ∷ vs) ks cut all = arcs_of_walk arc v vs ks cut all.0 all.1

pub weaken_all : {X : Type 0} (P Q : X → Type 0) → ((x : X) → P x → Q x) → (xs : List X) → AllByRecursion P xs → AllByRecursion Q xs
weaken_all P Q imply [] all = tt
weaken_all P Q imply (x ∷ xs) all = (imply x all.0, weaken_all P Q imply xs all.1)

pub later_arcs : (arc : ℕ) (pss : List (List Place)) (ks : List Chain) → AreChainsOf arc pss ks → AllByRecursion (λ k. arc ≤ k.first.arc) ks
later_arcs arc [] ks cut = rw cut tt
later_arcs arc (ps ∷ pss) ks cut =
    let here = arcs_of_list arc (vertices_from arc 0 ps) cut.0 cut.3 (vertices_in_arc arc 0 ps) in
    let behind = later_arcs (suc arc) pss cut.1 cut.4 in
    rw cut.2 (append_all (λ k. arc ≤ k.first.arc) cut.0 cut.1
    (weaken_all (λ k. k.first.arc ≡ arc) (λ k. arc ≤ k.first.arc) (λ k same. omega arith) cut.0 here)
    (weaken_all (λ k. suc arc ≤ k.first.arc) (λ k. arc ≤ k.first.arc) (λ k past. omega arith) cut.1 behind))

linked_walk : (v : Vertex) (ws : List Vertex) (ks : List Chain) → IsCutInto v ws ks → AreLinked ks
linked_walk v ws [] cut = tt
linked_walk v ws (k ∷ []) cut = tt
linked_walk v ws (k ∷ l ∷ ks) cut =
    (λ same. ap (λ w. end_of w k.rest) cut.0 ∙ sym cut.4.0, linked_walk (end_of v k.rest) cut.2 (l ∷ ks) cut.4)

linked_list : (vs : List Vertex) (ks : List Chain) → IsListCutInto vs ks → AreLinked ks
linked_list [] ks cut = rw cut tt
linked_list (v ∷ vs) ks cut = linked_walk v vs ks cut

linked_arcs : (arc : ℕ) (ks ls : List Chain) → AreLinked ks → AreLinked ls → AllByRecursion (λ k. k.first.arc ≡ arc) ks
    → AllByRecursion (λ k. suc arc ≤ k.first.arc) ls → AreLinked (ks ++ ls)
linked_arcs arc [] ls first later here behind = later
linked_arcs arc (k ∷ []) [] first later here behind = tt
linked_arcs arc (k ∷ []) (l ∷ ls) first later here behind = (λ same. let own = here.0 in let next = behind.0 in absurd (omega arith), later)
linked_arcs arc (k ∷ k' ∷ ks) ls first later here behind = (first.0, linked_arcs arc (k' ∷ ks) ls first.1 later here.1 behind)

pub linked_of_arcs : (arc : ℕ) (pss : List (List Place)) (ks : List Chain) → AreChainsOf arc pss ks → AreLinked ks
linked_of_arcs arc [] ks cut = rw cut tt
linked_of_arcs arc (ps ∷ pss) ks cut =
    rw cut.2 (linked_arcs arc cut.0 cut.1 (linked_list (vertices_from arc 0 ps) cut.0 cut.3) (linked_of_arcs (suc arc) pss cut.1 cut.4)
    (arcs_of_list arc (vertices_from arc 0 ps) cut.0 cut.3 (vertices_in_arc arc 0 ps)) (later_arcs (suc arc) pss cut.1 cut.4))

-- ---- the chains stand in order of their arcs

-- no chain is of an arc before that of the chain in front of it
abbrev pub AreByArc : List Chain → Type 0
AreByArc [] = Unit {0}
AreByArc (k ∷ []) = Unit {0}
AreByArc (k ∷ l ∷ ks) = (k.first.arc ≤ l.first.arc) × AreByArc (l ∷ ks)

by_arc : (arc : ℕ) (ks ls : List Chain) → AllByRecursion (λ k. k.first.arc ≡ arc) ks → AllByRecursion (λ k. suc arc ≤ k.first.arc) ls
    → AreByArc ls → AreByArc (ks ++ ls)
by_arc arc [] ls here behind later = later
by_arc arc (k ∷ []) [] here behind later = tt
by_arc arc (k ∷ []) (l ∷ ls) here behind later = (omega (arith, here.0, behind.0), later)
by_arc arc (k ∷ k' ∷ ks) ls here behind later = (omega (arith, here.0, here.1.0), by_arc arc (k' ∷ ks) ls here.1 behind later)

pub by_arc_of_arcs : (arc : ℕ) (pss : List (List Place)) (ks : List Chain) → AreChainsOf arc pss ks → AreByArc ks
by_arc_of_arcs arc [] ks cut = rw cut tt
by_arc_of_arcs arc (ps ∷ pss) ks cut =
    rw cut.2 (by_arc arc cut.0 cut.1 (arcs_of_list arc (vertices_from arc 0 ps) cut.0 cut.3 (vertices_in_arc arc 0 ps))
    (later_arcs (suc arc) pss cut.1 cut.4) (by_arc_of_arcs (suc arc) pss cut.1 cut.4))
