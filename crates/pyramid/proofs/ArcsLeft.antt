-- What a run leaves of the arcs of a map, with the numbers of the vertices that its chains then have.
use Rattle.std.proofs.Common.{◌≡◌, ◌∙◌, ◌==◌, ℕ, zero, suc, ◌+◌, ◌<◌, ◌≤◌, Bool, true, false, cond, filter, List, [], ◌∷◌, ◌++◌, map}
use Rattle.std.proofs.Common.{length, get_or, drop, refl, sym, ap, subst, arith, add-one}
use Rattle.std.specs.List.{AllZip}
use Rattle.std.proofs.lemmas.Bool.Decides.{nat_tests}
use Rattle.std.proofs.lemmas.List.{length-map, drop-drop, get_or-drop}
use Rattle.grid_exact.specs.Geometry.{Place}
use Rattle.grid_exact.specs.Walks.{EachEdge, end_of}
use Rattle.arc_map.specs.Vertices.{Vertex, places}
use Rattle.arc_map.specs.Allowed.{IsPath}
use Rattle.arc_map.specs.Arcs.{vertex, vertices_from, IsCutInto, IsListCutInto, AreChainsOf, chains_of_arc, chains_past_arc, joined_rests}
use Rattle.arc_map.specs.Arcs.{joined_arc, arcs_now}
use Rattle.arc_map.specs.Arranged.{nowhere}
use Rattle.arc_map.specs.Chains.{Chain}
use Rattle.arc_map.specs.Edges.{EachOf}
use Rattle.arc_map.proofs.Keyed.{other_key}
use Rattle.monotone_split.proofs.Cuts.{parts_of_arc, parts_of_arcs}
use Rattle.monotone_split.proofs.Finish.{taken, left_over}
use Rattle.monotone_split.proofs.ArcVertices.{first_place}
use Rattle.monotone_split.proofs.Parity.{no_walk}
use Rattle.monotone_split.proofs.Outcome.{places_from}
use Rattle.chain_replace.specs.Run.{Terms, NearBy}
use Rattle.chain_replace.specs.Thinned.{IsThinned}
use Rattle.chain_replace.proofs.NearPaths.{AreNear, IsNextOf, numbers_of, path_end, path_joined, near_leads, places_left, thinned_by_path}
use Rattle.chain_replace.proofs.ThinnedChains.{IsLeftOf}
use Rattle.chain_replace.proofs.ThinnedArcs.{one_dropped, spelled_from, walk_left, LeftParts, left_parts, firsts_left}

-- ---- the vertices of an arc have its places

-- ---- the walk that is left

-- ---- one arc

-- the arc is left with the places of these numbers
abbrev IsLeftAt : Terms → List Place → List Place → List Chain → Type 0
IsLeftAt t before after ls = IsThinned (NearBy t) before after (0 ∷ numbers_of (joined_rests ls))

walk_is_left : (t : Terms) (arc : ℕ) (p : Place) (ps : List Place) (ws : List Vertex) (k : Chain) (ks : List Chain) (l : Chain) (ls :
    List Chain) → places ws ≡ ps → EachEdge (IsNextOf (p ∷ ps)) (vertex arc 0 true p) ws → IsCutInto (vertex arc 0 true p) ws (k ∷ ks)
    → AllZip (IsLeftOf t) (k ∷ ks) (l ∷ ls) → IsLeftAt t (p ∷ ps) (joined_arc (p ∷ ps) (l ∷ ls)) (l ∷ ls)
walk_is_left t arc p ps ws k ks l ls whole spelled cut left =
    let v = vertex arc 0 true p in
    let us = joined_rests (l ∷ ls) in
    let path : IsPath (AreNear (NearBy t)) v ws us = walk_left t v ws (k ∷ ks) (l ∷ ls) cut left in
    let start : l.first.place ≡ p = ap (λ (x : Vertex). x.place) (left.0.first ∙ cut.0) in
    let after : l.first.place ∷ places us ≡ map (λ i. get_or (p ∷ ps) i nowhere) (0 ∷ numbers_of us) =
    ap (λ (q : Place). q ∷ places us) start ∙ ap (λ (qs : List Place). p ∷ qs) (places_left (NearBy t) (p ∷ ps) v ws us spelled path) in
    let size : length (p ∷ ps) ≡ 0 + length ws + 1 = omega (arith, ap length whole, length-map ws (λ (x : Vertex). x.place)) in
    thinned_by_path (NearBy t) (p ∷ ps) (l.first.place ∷ places us) (0 + length ws) (numbers_of us) size
    (near_leads (NearBy t) (p ∷ ps) v ws us refl spelled path) after

one_place : (t : Terms) (arc : ℕ) (p : Place) → IsLeftAt t (p ∷ []) (p ∷ []) []
one_place t arc p =
    let none : List ℕ = [] in
    thinned_by_path (NearBy t) (p ∷ []) (p ∷ []) 0 none refl refl refl

arc_is_left : (t : Terms) (arc : ℕ) (ps : List Place) (ks ls : List Chain) → 0 < length ps → IsListCutInto (vertices_from arc 0 ps) ks
    → AllZip (IsLeftOf t) ks ls → IsLeftAt t ps (joined_arc ps ls) ls
arc_is_left t arc [] ks ls some cut left = absurd (omega arith)
arc_is_left t arc (p ∷ []) [] [] some cut left = one_place t arc p
arc_is_left t arc (p ∷ q ∷ qs) [] [] some cut left = absurd (no_walk arc q qs cut)
arc_is_left t arc (p ∷ ps) [] (l ∷ ls) some cut left = absurd left
arc_is_left t arc (p ∷ ps) (k ∷ ks) [] some cut left = absurd left
arc_is_left t arc (p ∷ []) (k ∷ ks) (l ∷ ls) some cut left = walk_is_left t arc p [] [] k ks l ls refl tt cut left
arc_is_left t arc (p ∷ q ∷ qs) (k ∷ ks) (l ∷ ls) some cut left =
    walk_is_left t arc p (q ∷ qs) (vertices_from arc 1 (q ∷ qs)) k ks l ls (places_from arc 1 (q ∷ qs))
    (spelled_from arc 0 (p ∷ q ∷ qs) (vertex arc 0 true p) p (q ∷ qs) refl refl) cut left

-- ---- the chains of an arc

pub same_test : (m n : ℕ) → m ≡ n → (m == n) ≡ true
same_test m n e = grind (arith, nat_tests)

abbrev pub of_arc : ℕ → List Chain → List Chain
of_arc arc ks = filter (λ (k : Chain). k.first.arc == arc) ks

of_here : (arc : ℕ) (here later : List Chain) → EachOf (λ k. k.first.arc ≡ arc) here → EachOf (λ k. suc arc ≤ k.first.arc) later
    → of_arc arc (here ++ later) ≡ here
of_here arc [] [] h k = refl
of_here arc [] (x ∷ xs) h k =
    let past = k.0 in
    ap (λ (t : Bool). cond t (x ∷ of_arc arc xs) (of_arc arc xs)) (other_key x.first.arc arc (λ e. absurd (omega arith)))
    ∙ of_here arc [] xs tt k.1
of_here arc (x ∷ xs) later h k = ap (λ (t : Bool). cond t (x ∷ of_arc arc (xs ++ later)) (of_arc arc (xs ++ later)))
    (same_test x.first.arc arc h.0) ∙ ap (λ (ys : List Chain). x ∷ ys) (of_here arc xs later h.1 k)

of_later : (arc at : ℕ) (here later : List Chain) → arc < at → EachOf (λ k. k.first.arc ≡ arc) here
    → of_arc at (here ++ later) ≡ of_arc at later
of_later arc at [] later past h = refl
of_later arc at (x ∷ xs) later past h =
    let is = h.0 in
    ap (λ (t : Bool). cond t (x ∷ of_arc at (xs ++ later)) (of_arc at (xs ++ later))) (other_key x.first.arc at (λ e. absurd (omega arith)))
    ∙ of_later arc at xs later past h.1

-- ---- all arcs

arc_of_parts : (t : Terms) (arc : ℕ) (ps : List Place) (pss : List (List Place)) (here later first second : List Chain)
    → IsListCutInto (vertices_from arc 0 ps) here → EachOf (λ k. suc arc ≤ k.first.arc) later → AllZip (IsLeftOf t) here first
    → AllZip (IsLeftOf t) later second → ((j : ℕ) → j < length pss → 0 < length (get_or pss j [])
    → IsLeftAt t (get_or pss j []) (get_or (arcs_now (suc arc) pss second) j []) (of_arc (suc arc + j) second)) → (i : ℕ)
    → i < length (ps ∷ pss) → 0 < length (get_or (ps ∷ pss) i [])
    → IsLeftAt t (get_or (ps ∷ pss) i []) (get_or (arcs_now arc (ps ∷ pss) (first ++ second)) i []) (of_arc (arc + i) (first ++ second))
arc_of_parts t arc ps pss here later first second cut seconds first_left second_left more zero below some =
    let arcs = firsts_left t (λ v. v.arc ≡ arc) here first (parts_of_arc arc ps here cut).arcs first_left in
    let past = firsts_left t (λ v. suc arc ≤ v.arc) later second seconds second_left in
    let number : arc ≡ arc + 0 = omega arith in
    subst (λ (n : ℕ). IsLeftAt t ps (joined_arc ps (chains_of_arc arc (first ++ second))) (of_arc n (first ++ second))) number
    (subst (λ (xs : List Chain). IsLeftAt t ps (joined_arc ps (chains_of_arc arc (first ++ second))) xs)
    (sym (of_here arc first second arcs past))
    (subst (λ (xs : List Chain). IsLeftAt t ps (joined_arc ps xs) first) (sym (taken arc first second arcs past))
    (arc_is_left t arc ps here first some cut first_left)))
arc_of_parts t arc ps pss here later first second cut seconds first_left second_left more (suc j) below some =
    let arcs = firsts_left t (λ v. v.arc ≡ arc) here first (parts_of_arc arc ps here cut).arcs first_left in
    let past = firsts_left t (λ v. suc arc ≤ v.arc) later second seconds second_left in
    let number : suc arc + j ≡ arc + suc j = omega arith in
    let after : arc < suc arc + j = omega arith in
    subst (λ (n : ℕ). IsLeftAt t (get_or pss j []) (get_or (arcs_now (suc arc) pss (chains_past_arc arc (first ++ second))) j [])
    (of_arc n (first ++ second))) number
    (subst (λ (xs : List Chain). IsLeftAt t (get_or pss j []) (get_or (arcs_now (suc arc) pss (chains_past_arc arc (first ++ second))) j [])
    xs) (sym (of_later arc (suc arc + j) first second after arcs))
    (subst (λ (xs : List Chain). IsLeftAt t (get_or pss j []) (get_or (arcs_now (suc arc) pss xs) j []) (of_arc (suc arc + j) second))
    (sym (left_over arc first second arcs past)) (more j (omega arith) some)))

pub arcs_are_left : (t : Terms) (arc : ℕ) (pss : List (List Place)) (ks ls : List Chain) → AreChainsOf arc pss ks
    → AllZip (IsLeftOf t) ks ls → (i : ℕ) → i < length pss → 0 < length (get_or pss i [])
    → IsThinned (NearBy t) (get_or pss i []) (get_or (arcs_now arc pss ls) i []) (0 ∷ numbers_of (joined_rests (of_arc (arc + i) ls)))
arcs_are_left t arc [] ks ls cut left i below some = absurd (omega arith)
arcs_are_left t arc (ps ∷ pss) ks ls cut left i below some =
    let here = cut.0 in
    let later = cut.1 in
    let parts = left_parts t here later ls (subst (λ (xs : List Chain). AllZip (IsLeftOf t) xs ls) cut.2 left) in
    let seconds = (parts_of_arcs (suc arc) pss later cut.4).arcs in
    subst (λ (xs : List Chain). IsLeftAt t (get_or (ps ∷ pss) i []) (get_or (arcs_now arc (ps ∷ pss) xs) i []) (of_arc (arc + i) xs))
    (sym parts.whole)
    (arc_of_parts t arc ps pss here later parts.first parts.second cut.3 seconds parts.first_left parts.second_left (λ j inside one.
    arcs_are_left t (suc arc) pss later parts.second cut.4 parts.second_left j inside one) i below some)
