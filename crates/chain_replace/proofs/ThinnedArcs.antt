-- What a run leaves of the arcs of a map.
use Rattle.std.proofs.Common.{◌≡◌, ◌∙◌, ℕ, zero, suc, ◌+◌, ◌-◌, ◌<◌, ◌≤◌, true, false, List, [], ◌∷◌, ◌++◌, map, length, get_or, drop, refl}
use Rattle.std.proofs.Common.{sym, ap, subst, arith, add-one}
use Rattle.std.specs.Prelude.{Contains}
use Rattle.std.specs.List.{AllZip, range_with_len}
use Rattle.std.proofs.lemmas.List.{length-map, get_or-map, drop-drop, get_or-drop}
use Rattle.std.proofs.lemmas.List.Elements.{All-contains}
use Rattle.grid_exact.specs.Geometry.{Place}
use Rattle.grid_exact.specs.Walks.{EachEdge, end_of}
use Rattle.arc_map.specs.Map.{Map}
use Rattle.arc_map.specs.Vertices.{Vertex, places}
use Rattle.arc_map.specs.Allowed.{IsPath}
use Rattle.arc_map.specs.Arcs.{vertex, vertices_from, IsCutInto, IsListCutInto, AreChainsOf, chains_of_arc, chains_past_arc, joined_rests}
use Rattle.arc_map.specs.Arcs.{joined_arc, arcs_now, map_now}
use Rattle.arc_map.specs.Arranged.{nowhere}
use Rattle.arc_map.specs.Chains.{Chain}
use Rattle.arc_map.specs.Edges.{EachOf}
use Rattle.arc_map.specs.Work.{work_of, vertex_in, chain_in, AreChainsIn, LiesInArc}
use Rattle.arc_map.specs.declared.refs.ChainRef.{ChainRef}
use Rattle.arc_map.proofs.Reading.{end_of_run}
use Rattle.monotone_split.proofs.Arranged.{of_both}
use Rattle.monotone_split.proofs.Cuts.{parts_of_arc, parts_of_arcs}
use Rattle.monotone_split.proofs.Finish.{cut_joined, taken, left_over}
use Rattle.monotone_split.proofs.ArcVertices.{first_place}
use Rattle.monotone_split.proofs.Parity.{no_walk}
use Rattle.monotone_split.proofs.Outcome.{places_from}
use Rattle.chain_replace.specs.Laws.{OutcomeThinsArcs}
use Rattle.chain_replace.specs.Run.{Terms, NearBy}
use Rattle.chain_replace.specs.Thinned.{IsThinned, ThinsArcs}
use Rattle.chain_replace.proofs.NearPaths.{AreNear, IsNextOf, numbers_of, path_end, path_joined, near_leads, places_left, thinned_by_path}
use Rattle.chain_replace.proofs.NearPaths.{thinned_none}
use Rattle.chain_replace.proofs.ThinnedChains.{IsLeftOf, thins_from, each_is_left}

-- ---- the vertices of an arc have its places

pub one_dropped : (l : List Place) (at : ℕ) (p : Place) (ps : List Place) → drop at l ≡ p ∷ ps → drop (suc at) l ≡ ps
one_dropped l at p ps e = ap (λ (k : ℕ). drop k l) (sym (add-one at)) ∙ sym (drop-drop 1 at l) ∙ ap (λ (qs : List Place). drop 1 qs) e

pub spelled_from : (arc at : ℕ) (whole : List Place) (v : Vertex) (p : Place) (ps : List Place) → v.at ≡ at → drop at whole ≡ p ∷ ps
    → EachEdge (IsNextOf whole) v (vertices_from arc (suc at) ps)
spelled_from arc at whole v p [] same rest = tt
spelled_from arc at whole v p (q ∷ []) same rest =
    ((ap suc (sym same), sym (first_place whole (suc at) q [] (one_dropped whole at p (q ∷ []) rest))), tt)
spelled_from arc at whole v p (q ∷ r ∷ rs) same rest =
    let next = one_dropped whole at p (q ∷ r ∷ rs) rest in (
      (ap suc (sym same), sym (first_place whole (suc at) q (r ∷ rs) next)),
      spelled_from arc (suc at) whole (vertex arc (suc at) false q) q
          (r ∷ rs) refl next,
    )

-- ---- the walk that is left

pub walk_left : (t : Terms) (v : Vertex) (ws : List Vertex) (ks ls : List Chain) → IsCutInto v ws ks → AllZip (IsLeftOf t) ks ls
    → IsPath (AreNear (NearBy t)) v ws (joined_rests ls)
walk_left t v ws [] [] cut left = cut
walk_left t v ws [] (l ∷ ls) cut left = absurd left
walk_left t v ws (k ∷ ks) [] cut left = absurd left
walk_left t v ws (k ∷ ks) (l ∷ ls) cut left =
    let here : IsPath (AreNear (NearBy t)) v k.rest l.rest = subst (λ (x : Vertex). IsPath (AreNear (NearBy t)) x k.rest l.rest) cut.0
    left.0.path in
    let later = walk_left t (end_of v k.rest) cut.2 ks ls cut.4 left.1 in
    let later' = subst (λ (x : Vertex). IsPath (AreNear (NearBy t)) x cut.2 (joined_rests ls))
    (sym (path_end (NearBy t) v k.rest l.rest here)) later in
    subst (λ (xs : List Vertex). IsPath (AreNear (NearBy t)) v xs (l.rest ++ joined_rests ls)) (sym cut.3)
    (path_joined (NearBy t) v k.rest l.rest cut.2 (joined_rests ls) here later')

held_stay : (t : Terms) (arc : ℕ) (ks ls : List Chain) → Contains t.held arc → EachOf (λ k. k.first.arc ≡ arc) ks
    → AllZip (IsLeftOf t) ks ls → ls ≡ ks
held_stay t arc [] [] held arcs left = refl
held_stay t arc [] (l ∷ ls) held arcs left = absurd left
held_stay t arc (k ∷ ks) [] held arcs left = absurd left
held_stay t arc (k ∷ ks) (l ∷ ls) held arcs left =
    ap (λ (x : Chain). x ∷ ls) (left.0.held (subst (λ (n : ℕ). Contains t.held n) (sym arcs.0) held))
    ∙ ap (λ (xs : List Chain). k ∷ xs) (held_stay t arc ks ls held arcs.1 left.1)

-- ---- the ends of the chains are left

-- the first and the last vertex of the chain are among these
abbrev HasEnds : List Vertex → Chain → Type 0
HasEnds vs k = Contains vs k.first × Contains vs (end_of k.first k.rest)

contains_first : (v : Vertex) (vs : List Vertex) → Contains (v ∷ vs) v
contains_first v vs = (0, omega arith, refl)

contains_later : (v : Vertex) (vs : List Vertex) (x : Vertex) → Contains vs x → Contains (v ∷ vs) x
contains_later v vs x there = let below = there.1 in (suc there.0, omega arith, there.2)

contains_past : (v : Vertex) (run vs : List Vertex) (x : Vertex) → Contains (end_of v run ∷ vs) x → Contains (v ∷ (run ++ vs)) x
contains_past v [] vs x there = there
contains_past v (w ∷ ws) vs x there = contains_later v (w ∷ (ws ++ vs)) x (contains_past w ws vs x there)

of_each : (P Q : Chain → Type 0) → ((k : Chain) → P k → Q k) → (ks : List Chain) → EachOf P ks → EachOf Q ks
of_each P Q f [] h = tt
of_each P Q f (k ∷ ks) h = (f k h.0, of_each P Q f ks h.1)

ends_left : (t : Terms) (v : Vertex) (ws : List Vertex) (ks ls : List Chain) → IsCutInto v ws ks → AllZip (IsLeftOf t) ks ls
    → EachOf (HasEnds (v ∷ joined_rests ls)) ks
ends_left t v ws [] [] cut left = tt
ends_left t v ws [] (l ∷ ls) cut left = absurd left
ends_left t v ws (k ∷ ks) [] cut left = absurd left
ends_left t v ws (k ∷ ks) (l ∷ ls) cut left =
    let here : IsPath (AreNear (NearBy t)) v k.rest l.rest = subst (λ (x : Vertex). IsPath (AreNear (NearBy t)) x k.rest l.rest) cut.0
    left.0.path in
    let same : end_of v l.rest ≡ end_of v k.rest = path_end (NearBy t) v k.rest l.rest here in
    let past : (x : Vertex) → Contains (end_of v k.rest ∷ joined_rests ls) x → Contains (v ∷ (l.rest ++ joined_rests ls)) x = (λ x there.
    contains_past v l.rest (joined_rests ls) x (subst (λ (y : Vertex). Contains (y ∷ joined_rests ls) x) (sym same) there)) in
    let last : Contains (v ∷ (l.rest ++ joined_rests ls)) (end_of v k.rest) =
    past (end_of v k.rest) (contains_first (end_of v k.rest) (joined_rests ls)) in
    let later = ends_left t (end_of v k.rest) cut.2 ks ls cut.4 left.1 in (
      (
        subst (λ (x : Vertex). Contains (v ∷ (l.rest ++ joined_rests ls)) x) (sym cut.0) (contains_first v (l.rest ++ joined_rests ls)),
        subst (λ (x : Vertex). Contains (v ∷ (l.rest ++ joined_rests ls)) (end_of x k.rest)) (sym cut.0) last,
      ),
      of_each (HasEnds (end_of v k.rest ∷ joined_rests ls)) (HasEnds (v ∷ (l.rest ++ joined_rests ls))) (λ x ends.
          (past x.first ends.0, past (end_of x.first x.rest) ends.1)) ks later,
    )

number_left : (vs : List Vertex) (x : Vertex) → Contains vs x → Contains (numbers_of vs) x.at
number_left vs x there =
    let below = there.1 in (
      there.0,
      omega (arith, length-map vs (λ (v : Vertex). v.at)),
      get_or-map (λ (v : Vertex). v.at) vs there.0 x x.at below
          ∙ ap (λ (v : Vertex). v.at) there.2,
    )

-- ---- one arc

-- the numbers of the first and the last vertex of the chain are among these, if it is of the arc
abbrev EndsAmong : ℕ → List ℕ → Chain → Type 0
EndsAmong arc numbers k = k.first.arc ≡ arc → Contains numbers k.first.at × Contains numbers (end_of k.first k.rest).at

-- what is left of the arc with these places, which is cut into those of the chains that are of it
record ArcLeft (t : Terms) (arc : ℕ) (before after : List Place) (ks : List Chain) : Type 0 where
  held : Contains t.held arc → after ≡ before
  numbers : List ℕ
  thinned : IsThinned (NearBy t) before after numbers
  ends : EachOf (EndsAmong arc numbers) ks

walk_is_thinned : (t : Terms) (arc : ℕ) (p : Place) (ps : List Place) (ws : List Vertex) (k : Chain) (ks : List Chain) (l : Chain) (ls :
    List Chain) → places ws ≡ ps → EachEdge (IsNextOf (p ∷ ps)) (vertex arc 0 true p) ws → EachOf (λ x. x.first.arc ≡ arc) (k ∷ ks)
    → IsCutInto (vertex arc 0 true p) ws (k ∷ ks) → AllZip (IsLeftOf t) (k ∷ ks) (l ∷ ls)
    → ArcLeft t arc (p ∷ ps) (joined_arc (p ∷ ps) (l ∷ ls)) (k ∷ ks)
walk_is_thinned t arc p ps ws k ks l ls whole spelled arcs cut left =
    let v = vertex arc 0 true p in
    let us = joined_rests (l ∷ ls) in
    let path : IsPath (AreNear (NearBy t)) v ws us = walk_left t v ws (k ∷ ks) (l ∷ ls) cut left in
    let start : l.first.place ≡ p = ap (λ (x : Vertex). x.place) (left.0.first ∙ cut.0) in
    let after : l.first.place ∷ places us ≡ map (λ i. get_or (p ∷ ps) i nowhere) (0 ∷ numbers_of us) =
    ap (λ (q : Place). q ∷ places us) start ∙ ap (λ (qs : List Place). p ∷ qs) (places_left (NearBy t) (p ∷ ps) v ws us spelled path) in
    let size : length (p ∷ ps) ≡ 0 + length ws + 1 = omega (arith, ap length whole, length-map ws (λ (x : Vertex). x.place)) in
    record {
      held = λ held.
          ap (λ (xs : List Chain). joined_arc (p ∷ ps) xs) (held_stay t arc (k ∷ ks) (l ∷ ls) held arcs left)
          ∙ ap (λ (x : Vertex). x.place ∷ places (joined_rests (k ∷ ks))) cut.0
          ∙ ap (λ (xs : List Vertex). p ∷ places xs) (sym (cut_joined v ws (k ∷ ks) cut))
          ∙ ap (λ (qs : List Place). p ∷ qs) whole;
      numbers = 0 ∷ numbers_of us;
      thinned = thinned_by_path (NearBy t) (p ∷ ps) (l.first.place ∷ places us) (0 + length ws) (numbers_of us) size
          (near_leads (NearBy t) (p ∷ ps) v ws us refl spelled path) after;
      ends = of_each (HasEnds (v ∷ us)) (EndsAmong arc (0 ∷ numbers_of us)) (λ x ends same.
          (number_left (v ∷ us) x.first ends.0, number_left (v ∷ us) (end_of x.first x.rest) ends.1)) (k ∷ ks)
          (ends_left t v ws (k ∷ ks) (l ∷ ls) cut left);
    }

one_place : (t : Terms) (arc : ℕ) (p : Place) → ArcLeft t arc (p ∷ []) (p ∷ []) []
one_place t arc p =
    let none : List ℕ = [] in
    record {
      held = λ held. refl;
      numbers = 0 ∷ [];
      thinned = thinned_by_path (NearBy t) (p ∷ []) (p ∷ []) 0 none refl refl refl;
      ends =
          tt;
    }

arc_left : (t : Terms) (arc : ℕ) (ps : List Place) (ks ls : List Chain) → IsListCutInto (vertices_from arc 0 ps) ks
    → AllZip (IsLeftOf t) ks ls → ArcLeft t arc ps (joined_arc ps ls) ks
arc_left t arc [] [] [] cut left = let none : List ℕ = [] in record {
  held = λ held. refl;
  numbers = none;
  thinned =
      thinned_none (NearBy t);
  ends = tt;
}
arc_left t arc (p ∷ []) [] [] cut left = one_place t arc p
arc_left t arc (p ∷ q ∷ qs) [] [] cut left = absurd (no_walk arc q qs cut)
arc_left t arc ps [] (l ∷ ls) cut left = absurd left
arc_left t arc ps (k ∷ ks) [] cut left = absurd left
arc_left t arc [] (k ∷ ks) (l ∷ ls) cut left = absurd (none k ks cut)
  where
    none : (k : Chain) (ks : List Chain) → k ∷ ks ≡ [] → ⊥
    none k ks e = cc
arc_left t arc (p ∷ []) (k ∷ ks) (l ∷ ls) cut left = walk_is_thinned t arc p [] [] k ks l ls refl tt
    (parts_of_arc arc (p ∷ []) (k ∷ ks) cut).arcs cut left
arc_left t arc (p ∷ q ∷ qs) (k ∷ ks) (l ∷ ls) cut left =
    walk_is_thinned t arc p (q ∷ qs) (vertices_from arc 1 (q ∷ qs)) k ks l ls (places_from arc 1 (q ∷ qs))
    (spelled_from arc 0 (p ∷ q ∷ qs) (vertex arc 0 true p) p (q ∷ qs) refl refl) (parts_of_arc arc (p ∷ q ∷ qs) (k ∷ ks) cut).arcs cut
    left

-- ---- all arcs

pub record LeftParts (t : Terms) (here later ls : List Chain) : Type 0 where
  pub first : List Chain
  pub second : List Chain
  pub whole : ls ≡ first ++ second
  pub first_left : AllZip (IsLeftOf t) here first
  pub second_left : AllZip (IsLeftOf t) later second

pub left_parts : (t : Terms) (here later ls : List Chain) → AllZip (IsLeftOf t) (here ++ later) ls → LeftParts t here later ls
left_parts t [] later ls left = record { first = []; second = ls; whole = refl; first_left = tt; second_left = left }
left_parts t (k ∷ ks) later [] left = absurd left
left_parts t (k ∷ ks) later (l ∷ ls) left =
    let rest = left_parts t ks later ls left.1 in
    record {
      first = l ∷ rest.first;
      second = rest.second;
      whole = ap (λ (xs : List Chain). l ∷ xs) rest.whole;
      first_left =
          (left.0, rest.first_left);
      second_left = rest.second_left;
    }

pub firsts_left : (t : Terms) (P : Vertex → Type 0) (ks ls : List Chain) → EachOf (λ k. P k.first) ks → AllZip (IsLeftOf t) ks ls
    → EachOf (λ l. P l.first) ls
firsts_left t P [] [] each left = tt
firsts_left t P [] (l ∷ ls) each left = absurd left
firsts_left t P (k ∷ ks) [] each left = absurd left
firsts_left t P (k ∷ ks) (l ∷ ls) each left = (subst P (sym left.0.first) each.0, firsts_left t P ks ls each.1 left.1)

-- the chains of other arcs make no difference to an arc
among_others : (t : Terms) (arc : ℕ) (before after : List Place) (here later : List Chain) → EachOf (λ k. suc arc ≤ k.first.arc) later
    → ArcLeft t arc before after here → ArcLeft t arc before after (here ++ later)
among_others t arc before after here later seconds one = record {
  held = one.held;
  numbers = one.numbers;
  thinned = one.thinned;
  ends = of_both (EndsAmong arc one.numbers) here later one.ends
      (of_each (λ k. suc arc ≤ k.first.arc) (EndsAmong arc one.numbers) (λ k past same. absurd (apart arc k.first.arc past same)) later
      seconds);
}
  where
    apart : (n m : ℕ) → suc n ≤ m → m ≡ n → ⊥
    apart n m past same = omega arith

behind_others : (t : Terms) (arc at : ℕ) (before after : List Place) (here later : List Chain) → arc < at
    → EachOf (λ k. k.first.arc ≡ arc) here → ArcLeft t at before after later → ArcLeft t at before after (here ++ later)
behind_others t arc at before after here later past firsts one = record {
  held = one.held;
  numbers = one.numbers;
  thinned = one.thinned;
  ends = of_both (EndsAmong at one.numbers) here later (of_each (λ k. k.first.arc ≡ arc) (EndsAmong at one.numbers) (λ k is same.
      absurd (apart k.first.arc is same)) here firsts) one.ends;
}
  where
    apart : (m : ℕ) → m ≡ arc → m ≡ at → ⊥
    apart m is same = omega arith

arc_of_parts : (t : Terms) (arc : ℕ) (ps : List Place) (pss : List (List Place)) (here later first second : List Chain)
    → IsListCutInto (vertices_from arc 0 ps) here → EachOf (λ k. suc arc ≤ k.first.arc) later → AllZip (IsLeftOf t) here first
    → AllZip (IsLeftOf t) later second → ((j : ℕ) → j < length pss
    → ArcLeft t (suc arc + j) (get_or pss j []) (get_or (arcs_now (suc arc) pss second) j []) later) → (i : ℕ) → i < length (ps ∷ pss)
    → ArcLeft t (arc + i) (get_or (ps ∷ pss) i []) (get_or (arcs_now arc (ps ∷ pss) (first ++ second)) i []) (here ++ later)
arc_of_parts t arc ps pss here later first second cut seconds first_left second_left more zero below =
    let arcs = (parts_of_arc arc ps here cut).arcs in
    let same = taken arc first second (firsts_left t (λ v. v.arc ≡ arc) here first arcs first_left)
    (firsts_left t (λ v. suc arc ≤ v.arc) later second seconds second_left) in
    let number : arc ≡ arc + 0 = omega arith in
    subst (λ (n : ℕ). ArcLeft t n ps (joined_arc ps (chains_of_arc arc (first ++ second))) (here ++ later)) number
    (subst (λ (xs : List Chain). ArcLeft t arc ps (joined_arc ps xs) (here ++ later)) (sym same)
    (among_others t arc ps (joined_arc ps first) here later seconds (arc_left t arc ps here first cut first_left)))
arc_of_parts t arc ps pss here later first second cut seconds first_left second_left more (suc j) below =
    let arcs = (parts_of_arc arc ps here cut).arcs in
    let same = left_over arc first second (firsts_left t (λ v. v.arc ≡ arc) here first arcs first_left)
    (firsts_left t (λ v. suc arc ≤ v.arc) later second seconds second_left) in
    let number : suc arc + j ≡ arc + suc j = omega arith in
    let past : arc < suc arc + j = omega arith in
    subst (λ (n : ℕ). ArcLeft t n (get_or pss j []) (get_or (arcs_now (suc arc) pss (chains_past_arc arc (first ++ second))) j [])
    (here ++ later)) number
    (subst (λ (xs : List Chain). ArcLeft t (suc arc + j) (get_or pss j []) (get_or (arcs_now (suc arc) pss xs) j []) (here ++ later))
    (sym same)
    (behind_others t arc (suc arc + j) (get_or pss j []) (get_or (arcs_now (suc arc) pss second) j []) here later past arcs
    (more j (omega arith))))

arcs_left : (t : Terms) (arc : ℕ) (pss : List (List Place)) (ks ls : List Chain) → AreChainsOf arc pss ks → AllZip (IsLeftOf t) ks ls
    → (i : ℕ) → i < length pss → ArcLeft t (arc + i) (get_or pss i []) (get_or (arcs_now arc pss ls) i []) ks
arcs_left t arc [] ks ls cut left i below = absurd (omega arith)
arcs_left t arc (ps ∷ pss) ks ls cut left i below =
    let here = cut.0 in
    let later = cut.1 in
    let parts = left_parts t here later ls (subst (λ (xs : List Chain). AllZip (IsLeftOf t) xs ls) cut.2 left) in
    let seconds = (parts_of_arcs (suc arc) pss later cut.4).arcs in
    subst (λ (xs : List Chain). ArcLeft t (arc + i) (get_or (ps ∷ pss) i []) (get_or (arcs_now arc (ps ∷ pss) ls) i []) xs) (sym cut.2)
    (subst (λ (xs : List Chain). ArcLeft t (arc + i) (get_or (ps ∷ pss) i []) (get_or (arcs_now arc (ps ∷ pss) xs) i []) (here ++ later))
    (sym parts.whole)
    (arc_of_parts t arc ps pss here later parts.first parts.second cut.3 seconds parts.first_left parts.second_left (λ j inside.
    arcs_left t (suc arc) pss later parts.second cut.4 parts.second_left j inside) i below))

count_now : (arc : ℕ) (pss : List (List Place)) (ls : List Chain) → length (arcs_now arc pss ls) ≡ length pss
count_now arc [] ls = refl
count_now arc (ps ∷ pss) ls = ap suc (count_now (suc arc) pss (chains_past_arc arc ls))

-- ---- the chains by where they lie

each_chain : (P : Chain → Type 0) (m : Map) (refs : List ChainRef) (r : ChainRef) (j : ℕ) → EachOf P (map (chain_in m) refs)
    → j < length refs → get_or refs j r ≡ r → P (chain_in m r)
each_chain P m [] r j each below is = absurd (omega arith)
each_chain P m (s ∷ ss) r zero each below is = subst (λ (x : ChainRef). P (chain_in m x)) is each.0
each_chain P m (s ∷ ss) r (suc j) each below is = each_chain P m ss r j each.1 (omega arith) is

ends_by_refs : (m : Map) (arc : ℕ) (numbers : List ℕ) (refs : List ChainRef) (r : ChainRef)
    → EachOf (EndsAmong arc numbers) (map (chain_in m) refs) → LiesInArc m r → Contains refs r → r.arc ≡ arc
    → Contains numbers r.«from» × Contains numbers r.to
ends_by_refs m arc numbers refs r each lies there same =
    let ends = each_chain (EndsAmong arc numbers) m refs r there.0 each there.1 there.2 same in
    let some = lies.edge in
    let number : r.«from» + (r.to - r.«from») ≡ r.to = omega arith in
    let last : (end_of (vertex_in m r.arc r.«from») (chain_in m r).rest).at ≡ r.to =
    ap (λ (v : Vertex). v.at) (end_of_run m r.arc r.«from» (r.to - r.«from»)) ∙ number in
    (ends.0, subst (λ (n : ℕ). Contains numbers n) last ends.1)

-- ---- the law

-- what is left of the chains of a map thins its arcs
pub chains_thin_arcs : (t : Terms) (m : Map) (refs : List ChainRef) (ls : List Chain) → AreChainsIn m refs
    → AllZip (IsLeftOf t) (map (chain_in m) refs) ls → ThinsArcs t m refs (map_now m ls)
chains_thin_arcs t m refs ls chains left =
    let before = map (chain_in m) refs in
    let each : (arc : ℕ) → arc < length m.arcs → ArcLeft t arc (get_or m.arcs arc []) (get_or (arcs_now 0 m.arcs ls) arc []) before =
    (λ arc below.
    let number : 0 + arc ≡ arc = omega arith in
    subst (λ (n : ℕ). ArcLeft t n (get_or m.arcs arc []) (get_or (arcs_now 0 m.arcs ls) arc []) before) number
    (arcs_left t 0 m.arcs before ls chains.cut left arc below)) in
    record {
      count = count_now 0 m.arcs ls;
      arcs = λ arc below.
          let one = each arc below in
          record {
            held = one.held;
            numbers = one.numbers;
            thinned = one.thinned;
            chain_ends = λ r there same. ends_by_refs m arc one.numbers refs r one.ends (All-contains (LiesInArc m) refs r chains.lie there)
                there same;
          };
      points = refl;
      polygons = refl;
      coded = refl;
    }

pub outcome_thins_arcs : OutcomeThinsArcs
outcome_thins_arcs m t after records is =
    let refs = is.refs in
    let count = length-map refs (chain_in m) in
    let thins = thins_from t (work_of m refs) 0 (length refs) records is.last (omega arith) is.replaced in
    let left = each_is_left t (map (chain_in m) refs) is.last.chains thins.count thins.left in
    subst (λ (n : Map). ThinsArcs t m refs n) (sym is.made) (chains_thin_arcs t m refs is.last.chains is.chains left)
