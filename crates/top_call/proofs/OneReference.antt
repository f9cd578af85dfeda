-- Where each edge stands once in the arcs, an edge has one reference: that of its arc, in its direction.
use Rattle.std.proofs.Common.{◌≡◌, ◌≢◌, ◌∙◌, ℕ, zero, suc, ◌<◌, ℤ, pos, negsuc, List, [], ◌∷◌, ◌++◌, All, get_or, reverse, append_assoc}
use Rattle.std.proofs.Common.{true, false, refl, ap, sym, subst, inl, inr, arith}
use Rattle.std.specs.Prelude.{◌⊎◌}
use Rattle.std.proofs.lemmas.Bool.{cases_order}
use Rattle.std.proofs.lemmas.List.{reverse-append, reverse-reverse}
use Rattle.grid_exact.specs.Geometry.{Place}
use Rattle.grid_exact.specs.Segments.{SameEnds}
use Rattle.grid_exact.specs.Walks.{EachEdge}
use Rattle.arc_map.specs.Arcs.{vertex, is_first, vertices_from, edges_of_list, edges_of_arcs}
use Rattle.arc_map.specs.Edges.{Edge, EachOf, EachTwo}
use Rattle.arc_map.specs.Map.{IsArc}
use Rattle.topo_build.specs.References.{walk_of}

-- ---- lists

front : {A : Type 0} (P : A → Type 0) (xs ys : List A) → EachOf P (xs ++ ys) → EachOf P xs
front P [] ys h = tt
front P (x ∷ xs) ys h = (h.0, front P xs ys h.1)

back : {A : Type 0} (P : A → Type 0) (xs ys : List A) → EachOf P (xs ++ ys) → EachOf P ys
back P [] ys h = h
back P (x ∷ xs) ys h = back P xs ys h.1

pub two_front : {A : Type 0} (R : A → A → Type 0) (xs ys : List A) → EachTwo R (xs ++ ys) → EachTwo R xs
two_front R [] ys h = tt
two_front R (x ∷ xs) ys h = (front (R x) xs ys h.0, two_front R xs ys h.1)

two_back : {A : Type 0} (R : A → A → Type 0) (xs ys : List A) → EachTwo R (xs ++ ys) → EachTwo R ys
two_back R [] ys h = h
two_back R (x ∷ xs) ys h = two_back R xs ys h.1

two_across : {A : Type 0} (R : A → A → Type 0) (xs ys : List A) → EachTwo R (xs ++ ys) → EachOf (λ x. EachOf (R x) ys) xs
two_across R [] ys h = tt
two_across R (x ∷ xs) ys h = (back (R x) xs ys h.0, two_across R xs ys h.1)

-- ---- edges of a list

-- b stands right behind a somewhere in the list
abbrev pub HasNext : Place → Place → List Place → Type 0
HasNext a b [] = ⊥
HasNext a b (p ∷ []) = ⊥
HasNext a b (p ∷ q ∷ ps) = ((p ≡ a) × (q ≡ b)) ⊎ HasNext a b (q ∷ ps)

-- the list has the edge, in one direction or the other
abbrev pub HasEdge : Place → Place → List Place → Type 0
HasEdge a b ps = HasNext a b ps ⊎ HasNext b a ps

-- the edges do not have the same ends
abbrev pub Apart : Edge → Edge → Type 0
Apart e f = ¬ (SameEnds e.start.place e.end.place f.start.place f.end.place)

-- where a stands before b in a list
record Split (a b : Place) (ps : List Place) : Type 0 where
  before : List Place
  behind : List Place
  is : ps ≡ before ++ a ∷ b ∷ behind

split : (a b : Place) (ps : List Place) → HasNext a b ps → Split a b ps
split a b [] h = absurd h
split a b (p ∷ []) h = absurd h
split a b (p ∷ q ∷ ps) (inl h) = record {
  before = [];
  behind = ps;
  is = ap (λ (x : Place). x ∷ q ∷ ps) h.0 ∙ ap (λ (y : Place). a ∷ y ∷ ps) h.1;
}
split a b (p ∷ q ∷ ps) (inr h) =
    let rest = split a b (q ∷ ps) h in
    record { before = p ∷ rest.before; behind = rest.behind; is = ap (λ (xs : List Place). p ∷ xs) rest.is }

pub join : (a b : Place) (before behind : List Place) → HasNext a b (before ++ a ∷ b ∷ behind)
join a b [] behind = inl (refl, refl)
join a b (p ∷ []) behind = inr (inl (refl, refl))
join a b (p ∷ q ∷ before) behind = inr (join a b (q ∷ before) behind)

-- what stands backwards in the list
pub turned : (a b : Place) (ps : List Place) → HasNext a b (reverse ps) → HasNext b a ps
turned a b ps h =
    let parts = split a b (reverse ps) h in
    let is : ps ≡ reverse parts.behind ++ b ∷ a ∷ reverse parts.before =
    sym (reverse-reverse ps) ∙ ap reverse parts.is ∙ reverse-append parts.before (a ∷ b ∷ parts.behind)
    ∙ ap (λ (xs : List Place). xs ++ reverse parts.before) (reverse-append (a ∷ b ∷ []) parts.behind)
    ∙ append_assoc (reverse parts.behind) (b ∷ a ∷ []) (reverse parts.before) in
    subst (HasNext b a) (sym is) (join b a (reverse parts.behind) (reverse parts.before))

-- in an arc the ends of an edge differ
pub differ : (a b : Place) (ps : List Place) → IsArc ps → HasNext a b ps → a ≢ b
differ a b [] arc h same = absurd h
differ a b (p ∷ []) arc h same = absurd h
differ a b (p ∷ q ∷ ps) arc (inl h) same = arc.0 (h.0 ∙ same ∙ sym h.1)
differ a b (p ∷ q ∷ ps) arc (inr h) same = differ a b (q ∷ ps) arc.1 h same

-- ---- edges of arcs

-- an edge with these ends, of which something holds
abbrev pub Found : (Edge → Type 0) → Place → Place → Type 0
Found P a b = (e : Edge) × (e.start.place ≡ a) × (e.end.place ≡ b) × P e

edge_there : (P : Edge → Type 0) (a b : Place) (n at : ℕ) (ps : List Place) → HasNext a b ps
    → EachOf P (edges_of_list (vertices_from n at ps)) → Found P a b
edge_there P a b n at [] h each = absurd h
edge_there P a b n at (p ∷ []) h each = absurd h
edge_there P a b n at (p ∷ q ∷ []) (inl h) each =
    (record { start = vertex n at (is_first at) p; end = vertex n (suc at) true q }, h.0, h.1, each.0)
edge_there P a b n at (p ∷ q ∷ []) (inr h) each = absurd h
edge_there P a b n at (p ∷ q ∷ r ∷ ps) (inl h) each =
    (record { start = vertex n at (is_first at) p; end = vertex n (suc at) false q }, h.0, h.1, each.0)
edge_there P a b n at (p ∷ q ∷ r ∷ ps) (inr h) each = edge_there P a b n (suc at) (q ∷ r ∷ ps) h each.1

-- an edge of the list has both ends
either_there : (P : Edge → Type 0) (a b : Place) (n at : ℕ) (ps : List Place) → HasEdge a b ps
    → EachOf P (edges_of_list (vertices_from n at ps)) → (e : Edge) × SameEnds a b e.start.place e.end.place × P e
either_there P a b n at ps (inl h) each = let e = edge_there P a b n at ps h each in (e.0, inl (sym e.1, sym e.2), e.3)
either_there P a b n at ps (inr h) each = let e = edge_there P b a n at ps h each in (e.0, inr (sym e.2, sym e.1), e.3)

either_among : (P : Edge → Type 0) (a b : Place) (n k : ℕ) (arcs : List (List Place)) → HasEdge a b (get_or arcs k [])
    → EachOf P (edges_of_arcs n arcs) → (e : Edge) × SameEnds a b e.start.place e.end.place × P e
either_among P a b n k [] (inl h) each = absurd h
either_among P a b n k [] (inr h) each = absurd h
either_among P a b n zero (ps ∷ pss) h each =
    either_there P a b n 0 ps h (front P (edges_of_list (vertices_from n 0 ps)) (edges_of_arcs (suc n) pss) each)
either_among P a b n (suc k) (ps ∷ pss) h each =
    either_among P a b (suc n) k pss h (back P (edges_of_list (vertices_from n 0 ps)) (edges_of_arcs (suc n) pss) each)

same_twice : (a b c d x y : Place) → SameEnds a b c d → SameEnds a b x y → SameEnds c d x y
same_twice a b c d x y (inl h) (inl k) = inl (sym h.0 ∙ k.0, sym h.1 ∙ k.1)
same_twice a b c d x y (inl h) (inr k) = inr (sym h.0 ∙ k.0, sym h.1 ∙ k.1)
same_twice a b c d x y (inr h) (inl k) = inr (sym h.1 ∙ k.1, sym h.0 ∙ k.0)
same_twice a b c d x y (inr h) (inr k) = inl (sym h.1 ∙ k.1, sym h.0 ∙ k.0)

-- no edge stands in two arcs
not_in_two : (a b : Place) (n j k : ℕ) (arcs : List (List Place)) → j < k → HasEdge a b (get_or arcs j []) → HasEdge a b (get_or arcs k [])
    → EachTwo Apart (edges_of_arcs n arcs) → ⊥
not_in_two a b n j k [] less (inl h) second once = absurd h
not_in_two a b n j k [] less (inr h) second once = absurd h
not_in_two a b n j zero (ps ∷ pss) less first second once = absurd (omega arith)
not_in_two a b n zero (suc k) (ps ∷ pss) less first second once =
    let here = edges_of_list (vertices_from n 0 ps) in
    let later = edges_of_arcs (suc n) pss in
    let e = either_there (λ x. EachOf (Apart x) later) a b n 0 ps first (two_across Apart here later once) in
    let f = either_among (Apart e.0) a b (suc n) k pss second e.2 in
    f.2 (same_twice a b e.0.start.place e.0.end.place f.0.start.place f.0.end.place e.1 f.1)
not_in_two a b n (suc j) (suc k) (ps ∷ pss) less first second once =
    not_in_two a b (suc n) j k pss (omega (arith, less)) first second
    (two_back Apart (edges_of_list (vertices_from n 0 ps)) (edges_of_arcs (suc n) pss) once)

same_arc : (a b : Place) (arcs : List (List Place)) (j k : ℕ) → EachTwo Apart (edges_of_arcs 0 arcs) → HasEdge a b (get_or arcs j [])
    → HasEdge a b (get_or arcs k []) → j ≡ k
same_arc a b arcs j k once first second = elim (cases_order j k) [
  | inl same ↦ same
  | inr other ↦ elim other [
    | inl before ↦ absurd (not_in_two a b 0 j k arcs before first second once)
    | inr behind ↦ absurd (not_in_two a b 0 k j arcs behind second first once)
  ]
]

-- the edges of one arc stand once
arc_once : (n k : ℕ) (arcs : List (List Place)) → EachTwo Apart (edges_of_arcs n arcs)
    → (m : ℕ) × EachTwo Apart (edges_of_list (vertices_from m 0 (get_or arcs k [])))
arc_once n k [] once = (0, tt)
arc_once n zero (ps ∷ pss) once = (n, two_front Apart (edges_of_list (vertices_from n 0 ps)) (edges_of_arcs (suc n) pss) once)
arc_once n (suc k) (ps ∷ pss) once =
    arc_once (suc n) k pss (two_back Apart (edges_of_list (vertices_from n 0 ps)) (edges_of_arcs (suc n) pss) once)

-- no edge stands in both directions
not_back : (a b : Place) (n at : ℕ) (ps : List Place) → a ≢ b → HasNext a b ps → HasNext b a ps
    → EachTwo Apart (edges_of_list (vertices_from n at ps)) → ⊥
not_back a b n at [] apart h k once = h
not_back a b n at (p ∷ []) apart h k once = h
not_back a b n at (p ∷ q ∷ []) apart (inl h) (inl k) once = apart (sym h.0 ∙ k.0)
not_back a b n at (p ∷ q ∷ []) apart (inl h) (inr k) once = k
not_back a b n at (p ∷ q ∷ []) apart (inr h) k once = h
not_back a b n at (p ∷ q ∷ r ∷ ps) apart (inl h) (inl k) once = apart (sym h.0 ∙ k.0)
not_back a b n at (p ∷ q ∷ r ∷ ps) apart (inl h) (inr k) once =
    let e : Edge = record { start = vertex n at (is_first at) p; end = vertex n (suc at) false q } in
    let f = edge_there (Apart e) b a n (suc at) (q ∷ r ∷ ps) k once.0 in
    f.3 (inr (h.0 ∙ sym f.2, h.1 ∙ sym f.1))
not_back a b n at (p ∷ q ∷ r ∷ ps) apart (inr h) (inl k) once =
    let e : Edge = record { start = vertex n at (is_first at) p; end = vertex n (suc at) false q } in
    let f = edge_there (Apart e) a b n (suc at) (q ∷ r ∷ ps) h once.0 in
    f.3 (inr (k.0 ∙ sym f.2, k.1 ∙ sym f.1))
not_back a b n at (p ∷ q ∷ r ∷ ps) apart (inr h) (inr k) once = not_back a b n (suc at) (q ∷ r ∷ ps) apart h k once.1

-- ---- references

both_ways : (a b : Place) (arcs : List (List Place)) (k : ℕ) → a ≢ b → EachTwo Apart (edges_of_arcs 0 arcs) → HasNext a b (get_or arcs k [])
    → HasNext b a (get_or arcs k []) → ⊥
both_ways a b arcs k apart once there back =
    let one = arc_once 0 k arcs once in
    not_back a b one.0 0 (get_or arcs k []) apart there back one.1

pub one_reference : (a b : Place) (arcs : List (List Place)) (r s : ℤ) → a ≢ b → EachTwo Apart (edges_of_arcs 0 arcs)
    → HasNext a b (walk_of arcs r) → HasNext a b (walk_of arcs s) → r ≡ s
one_reference a b arcs (pos j) (pos k) apart once first second = ap pos (same_arc a b arcs j k once (inl first) (inl second))
one_reference a b arcs (negsuc j) (negsuc k) apart once first second =
    ap negsuc (same_arc a b arcs j k once (inr (turned a b (get_or arcs j []) first)) (inr (turned a b (get_or arcs k []) second)))
one_reference a b arcs (pos j) (negsuc k) apart once first second =
    let other = turned a b (get_or arcs k []) second in
    let same = same_arc a b arcs j k once (inl first) (inr other) in
    absurd (both_ways a b arcs k apart once (subst (λ (n : ℕ). HasNext a b (get_or arcs n [])) same first) other)
one_reference a b arcs (negsuc j) (pos k) apart once first second =
    let other = turned a b (get_or arcs j []) first in
    let same = same_arc a b arcs j k once (inr other) (inl second) in
    absurd (both_ways a b arcs k apart once second (subst (λ (n : ℕ). HasNext b a (get_or arcs n [])) same other))
