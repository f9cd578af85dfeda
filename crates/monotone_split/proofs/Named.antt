-- The edges of a map by their names and in their list: it is arranged by the one exactly where it is by the other.
use Rattle.std.proofs.Common.{◌≡◌, ◌⊎◌, inl, inr, ◌∙◌, ℕ, zero, suc, ◌+◌, ◌-◌, ◌<◌, ◌≤◌, ◌==◌, ◌&&◌, IsTrue, List, [], ◌∷◌, length, get_or}
use Rattle.std.proofs.Common.{map, drop, refl, sym, ap, subst, arith, add-one, length-drop}
use Rattle.std.specs.Prelude.{Contains}
use Rattle.std.specs.List.{range_with_len}
use Rattle.std.proofs.lemmas.Bool.Decides.{nat_tests}
use Rattle.std.proofs.lemmas.List.{get_or-drop, drop-drop}
use Rattle.std.proofs.lemmas.List.Elements.{Contains-get_or}
use Rattle.grid_exact.specs.Geometry.{Place, IsOnSegment}
use Rattle.arc_map.specs.Map.{Map}
use Rattle.arc_map.specs.Vertices.{Vertex}
use Rattle.arc_map.specs.Edges.{Edge, edges_of, EachOf, EachTwo, ClashOnlyIfHeld}
use Rattle.arc_map.specs.Arcs.{vertices_from, edges_of_list, edges_of_arcs, IsMapArrangedBeside}
use Rattle.arc_map.specs.Arranged.{arc_at, nowhere, IsEarlier, EdgesClash, flags_between, IsMapArranged}
use Rattle.arc_map.specs.Work.{vertex_in}
use Rattle.arc_map.specs.declared.refs.EdgeRef.{EdgeRef}
use Rattle.monotone_split.specs.Laws.{FlagsFit, ArrangedByNames}
use Rattle.monotone_split.proofs.Arranged.{of_first, of_second, of_both, two_first, two_second, two_across, two_joined, held_or_not}
use Rattle.monotone_split.proofs.ArcVertices.{vertices_numbered}
use Rattle.monotone_split.proofs.Flags.{clashes_are_unlawful}

-- the edge with this name
abbrev named : Map → ℕ → ℕ → Edge
named m arc at = record { start = vertex_in m arc at; end = vertex_in m arc (at + 1) }

-- how many edges the arc has
abbrev edge_count : Map → ℕ → ℕ
edge_count m arc = length (arc_at m arc) - 1

abbrev edges_in : Map → ℕ → List Edge
edges_in m arc = map (named m arc) (range_with_len 0 (edge_count m arc))

-- ---- the edges of one arc

edges_numbered : (m : Map) (arc at n : ℕ) → edges_of (vertex_in m arc at) (map (vertex_in m arc) (range_with_len (at + 1) n))
    ≡ map (named m arc) (range_with_len at n)
edges_numbered m arc at zero = refl
edges_numbered m arc at (suc n) = ap (λ (es : List Edge). named m arc at ∷ es) (edges_numbered m arc (at + 1) n)

edges_of_arc : (m : Map) (arc : ℕ) → edges_of_list (vertices_from arc 0 (arc_at m arc)) ≡ edges_in m arc
edges_of_arc m arc = ap edges_of_list (vertices_numbered m arc 0 (arc_at m arc) refl) ∙ counted (length (arc_at m arc))
  where
    counted : (n : ℕ) → edges_of_list (map (vertex_in m arc) (range_with_len 0 n)) ≡ map (named m arc) (range_with_len 0 (n - 1))
    counted zero = refl
    counted (suc n) = let less : suc n - 1 ≡ n = omega arith in edges_numbered m arc 0 n
        ∙ ap (λ (k : ℕ). map (named m arc) (range_with_len 0 k)) (sym less)

-- ---- mapped numbers

-- a number from a on is a, or past it
data From (a k : ℕ) : Type 0 where
  Here : a ≡ k → From a k
  Later : suc a ≤ k → From a k

from_number : (a k : ℕ) → a ≤ k → From a k
from_number zero zero low = Here refl
from_number zero (suc k) low = Later (omega arith)
from_number (suc a) zero low = absurd (omega arith)
from_number (suc a) (suc k) low = elim (from_number a k (omega arith)) [ Here e ↦ Here (ap suc e) | Later l ↦ Later (omega arith) ]

of_range : (P : Edge → Type 0) (g : ℕ → Edge) (a n : ℕ) → ((k : ℕ) → a ≤ k → k < a + n → P (g k)) → EachOf P (map g (range_with_len a n))
of_range P g a zero f = tt
of_range P g a (suc n) f = (f a (omega arith) (omega arith), of_range P g (a + 1) n (λ k low high. f k (omega arith) (omega arith)))

in_range : (P : Edge → Type 0) (g : ℕ → Edge) (a n k : ℕ) → EachOf P (map g (range_with_len a n)) → a ≤ k → k < a + n → P (g k)
in_range P g a zero k h low high = absurd (omega arith)
in_range P g a (suc n) k h low high =
    elim (from_number a k low) [
      | Here e ↦ subst (λ (j : ℕ). P (g j)) e h.0
      | Later more ↦ in_range P g (a + 1) n k h.1 (omega arith) (omega arith)
    ]

two_of_range : (R : Edge → Edge → Type 0) (g : ℕ → Edge) (a n : ℕ) → ((j k : ℕ) → a ≤ j → j < k → k < a + n → R (g j) (g k))
    → EachTwo R (map g (range_with_len a n))
two_of_range R g a zero f = tt
two_of_range R g a (suc n) f = (
  of_range (R (g a)) g (a + 1) n (λ k low high. f a k (omega arith) (omega arith) (omega arith)),
  two_of_range R g (a + 1) n (λ j k low rising high. f j k (omega arith) rising (omega arith)),
)

two_in_range : (R : Edge → Edge → Type 0) (g : ℕ → Edge) (a n j k : ℕ) → EachTwo R (map g (range_with_len a n)) → a ≤ j → j < k → k < a + n
    → R (g j) (g k)
two_in_range R g a zero j k h low rising high = absurd (omega arith)
two_in_range R g a (suc n) j k h low rising high =
    elim (from_number a j low) [
      | Here e ↦ subst (λ (i : ℕ). R (g i) (g k)) e (in_range (R (g a)) g (a + 1) n k h.0 (omega arith) (omega arith))
      | Later more ↦ two_in_range R g (a + 1) n j k h.1 (omega arith) rising (omega arith)
    ]

-- ---- the edges of the arcs from one on

arc_here : (m : Map) (arc : ℕ) (ps : List Place) (pss : List (List Place)) → drop arc m.arcs ≡ ps ∷ pss → arc_at m arc ≡ ps
arc_here m arc ps pss e =
    let here : arc + 0 ≡ arc = omega arith in
    ap (λ (k : ℕ). get_or m.arcs k []) (sym here) ∙ sym (get_or-drop arc m.arcs 0 []) ∙ ap (λ (qss : List (List Place)). get_or qss 0 []) e

arcs_later : (m : Map) (arc : ℕ) (ps : List Place) (pss : List (List Place)) → drop arc m.arcs ≡ ps ∷ pss → drop (suc arc) m.arcs ≡ pss
arcs_later m arc ps pss e =
    let next : drop (arc + 1) m.arcs ≡ pss = sym (drop-drop 1 arc m.arcs) ∙ ap (λ (qss : List (List Place)). drop 1 qss) e in
    ap (λ (k : ℕ). drop k m.arcs) (sym (add-one arc)) ∙ next

first_edges : (m : Map) (arc : ℕ) (ps : List Place) (pss : List (List Place)) → drop arc m.arcs ≡ ps ∷ pss
    → edges_of_list (vertices_from arc 0 ps) ≡ edges_in m arc
first_edges m arc ps pss e = ap (λ (qs : List Place). edges_of_list (vertices_from arc 0 qs)) (sym (arc_here m arc ps pss e))
    ∙ edges_of_arc m arc

-- past the last arc there is no edge
none_past : (m : Map) (arc n at : ℕ) → drop arc m.arcs ≡ [] → arc ≤ n → at + 1 < length (arc_at m n) → ⊥
none_past m arc n at e past inside =
    let size = sym (length-drop arc m.arcs) ∙ ap length e in
    let none : get_or m.arcs n [] ≡ [] = beyond m.arcs n (omega arith) in
    let empty = ap length none in
    omega arith
  where
    beyond : (xss : List (List Place)) (k : ℕ) → length xss ≤ k → get_or xss k [] ≡ []
    beyond [] k h = refl
    beyond (xs ∷ xss) zero h = absurd (omega arith)
    beyond (xs ∷ xss) (suc k) h = beyond xss k (omega arith)

abbrev Named : (P : Edge → Type 0) → Map → ℕ → Type 0
Named P m arc = (n at : ℕ) → arc ≤ n → at + 1 < length (arc_at m n) → P (named m n at)

to_list : (P : Edge → Type 0) (m : Map) (arc : ℕ) (pss : List (List Place)) → drop arc m.arcs ≡ pss → Named P m arc
    → EachOf P (edges_of_arcs arc pss)
to_list P m arc [] e f = tt
to_list P m arc (ps ∷ pss) e f =
    of_both P (edges_of_list (vertices_from arc 0 ps)) (edges_of_arcs (suc arc) pss)
    (subst (λ (es : List Edge). EachOf P es) (sym (first_edges m arc ps pss e))
    (of_range P (named m arc) 0 (edge_count m arc) (λ k low high. f arc k (omega arith) (omega arith))))
    (to_list P m (suc arc) pss (arcs_later m arc ps pss e) (λ n at past inside. f n at (omega arith) inside))

in_arc : (P : Edge → Type 0) (m : Map) (arc at : ℕ) → EachOf P (edges_in m arc) → at + 1 < length (arc_at m arc) → P (named m arc at)
in_arc P m arc at h inside = in_range P (named m arc) 0 (edge_count m arc) at h (omega arith) (omega arith)

from_list : (P : Edge → Type 0) (m : Map) (arc : ℕ) (pss : List (List Place)) → drop arc m.arcs ≡ pss → EachOf P (edges_of_arcs arc pss)
    → Named P m arc
from_list P m arc [] e h n at past inside = absurd (none_past m arc n at e past inside)
from_list P m arc (ps ∷ pss) e h n at past inside =
    elim (from_number arc n past) [
      | Here same ↦
          subst (λ (k : ℕ). P (named m k at)) same
          (in_arc P m arc at (subst (λ (es : List Edge). EachOf P es) (first_edges m arc ps pss e)
          (of_first P (edges_of_list (vertices_from arc 0 ps)) (edges_of_arcs (suc arc) pss) h))
          (subst (λ (k : ℕ). at + 1 < length (arc_at m k)) (sym same) inside))
      | Later more ↦ from_list P m (suc arc) pss (arcs_later m arc ps pss e)
          (of_second P (edges_of_list (vertices_from arc 0 ps)) (edges_of_arcs (suc arc) pss) h) n at more inside
    ]

-- each edge has the relation to each later one, by names
abbrev TwoNamed : (R : Edge → Edge → Type 0) → Map → ℕ → Type 0
TwoNamed R m arc = (n at k to : ℕ) → arc ≤ n → at + 1 < length (arc_at m n) → to + 1 < length (arc_at m k) → (n < k) ⊎ ((n ≡ k) × (at < to))
    → R (named m n at) (named m k to)

to_two : (R : Edge → Edge → Type 0) (m : Map) (arc : ℕ) (pss : List (List Place)) → drop arc m.arcs ≡ pss → TwoNamed R m arc
    → EachTwo R (edges_of_arcs arc pss)
to_two R m arc [] e f = tt
to_two R m arc (ps ∷ pss) e f =
    let later = arcs_later m arc ps pss e in
    two_joined R (edges_of_list (vertices_from arc 0 ps)) (edges_of_arcs (suc arc) pss)
    (subst (λ (es : List Edge). EachTwo R es) (sym (first_edges m arc ps pss e))
    (two_of_range R (named m arc) 0 (edge_count m arc) (λ j k low rising high.
    f arc j arc k (omega arith) (omega arith) (omega arith) (inr (refl, rising)))))
    (to_two R m (suc arc) pss later (λ n at k to past inside there order. f n at k to (omega arith) inside there order))
    (subst (λ (es : List Edge). EachOf (λ x. EachOf (R x) (edges_of_arcs (suc arc) pss)) es) (sym (first_edges m arc ps pss e))
    (of_range (λ x. EachOf (R x) (edges_of_arcs (suc arc) pss)) (named m arc) 0 (edge_count m arc)
    (λ j low high. to_list (R (named m arc j)) m (suc arc) pss later (λ n at past inside.
    f arc j n at (omega arith) (omega arith) inside (inl (omega arith))))))

from_two : (R : Edge → Edge → Type 0) (m : Map) (arc : ℕ) (pss : List (List Place)) → drop arc m.arcs ≡ pss
    → EachTwo R (edges_of_arcs arc pss) → TwoNamed R m arc
from_two R m arc [] e h n at k to past inside there order = absurd (none_past m arc n at e past inside)
from_two R m arc (ps ∷ pss) e h n at k to past inside there order =
    elim (from_number arc n past) [
      | Later more ↦ from_two R m (suc arc) pss (arcs_later m arc ps pss e)
          (two_second R (edges_of_list (vertices_from arc 0 ps)) (edges_of_arcs (suc arc) pss) h) n at k to more inside there order
      | Here same ↦
          subst (λ (i : ℕ). R (named m i at) (named m k to)) same
          (first (subst (λ (i : ℕ). at + 1 < length (arc_at m i)) (sym same) inside)
          (subst (λ (i : ℕ). (i < k) ⊎ ((i ≡ k) × (at < to))) (sym same) order))
    ]
  where
    first : at + 1 < length (arc_at m arc) → (arc < k) ⊎ ((arc ≡ k) × (at < to)) → R (named m arc at) (named m k to)
    first here (inl before) =
        from_list (R (named m arc at)) m (suc arc) pss (arcs_later m arc ps pss e)
        (in_arc (λ x. EachOf (R x) (edges_of_arcs (suc arc) pss)) m arc at
        (subst (λ (es : List Edge). EachOf (λ x. EachOf (R x) (edges_of_arcs (suc arc) pss)) es) (first_edges m arc ps pss e)
        (two_across R (edges_of_list (vertices_from arc 0 ps)) (edges_of_arcs (suc arc) pss) h))
        here)
        k to (omega arith) there
    first here (inr own) =
        subst (λ (i : ℕ). R (named m arc at) (named m i to)) own.0
        (two_in_range R (named m arc) 0 (edge_count m arc) at to
        (subst (λ (es : List Edge). EachTwo R es) (first_edges m arc ps pss e)
        (two_first R (edges_of_list (vertices_from arc 0 ps)) (edges_of_arcs (suc arc) pss) h))
        (omega arith) own.1 (let inside' : to + 1 < length (arc_at m arc) =
        subst (λ (i : ℕ). to + 1 < length (arc_at m i)) (sym own.0) there in omega arith))

-- ---- flags by names

both_same : (a b c d : ℕ) → IsTrue ((a == b) && (c == d)) → (a ≡ b) × (c ≡ d)
both_same a b c d h = (grind (arith, nat_tests, h), grind (arith, nat_tests, h))

same_both : (a b c d : ℕ) → a ≡ b → c ≡ d → IsTrue ((a == b) && (c == d))
same_both a b c d e f = grind (arith, nat_tests)

vertex_named : (m : Map) (a b c d : ℕ) → a ≡ b → c ≡ d → vertex_in m a c ≡ vertex_in m b d
vertex_named m a b c d e f = ap (λ (k : ℕ). vertex_in m k c) e ∙ ap (λ (k : ℕ). vertex_in m b k) f

names_differ : (m : Map) (e f : EdgeRef) (i : ℕ) → IsEarlier e f → ¬ (vertex_in m e.arc (e.at + i) ≡ vertex_in m f.arc (f.at + i))
names_differ m e f i (inl before) same = let arcs = ap (λ (v : Vertex). v.arc) same in omega arith
names_differ m e f i (inr later) same = let ats = ap (λ (v : Vertex). v.at) same in let below = later.1 in omega arith

flags_fit : (m : Map) (e f : EdgeRef) → IsEarlier e f
    → FlagsFit (vertex_in m e.arc e.at) (vertex_in m e.arc (e.at + 1)) (vertex_in m f.arc f.at) (vertex_in m f.arc (f.at + 1))
    (flags_between m e f)
flags_fit m e f before =
    record {
      a_end = refl;
      b_end = refl;
      c_end = refl;
      d_end = refl;
      joined = (
        λ h. let s = both_same e.arc f.arc (e.at + 1) f.at h in vertex_named m e.arc f.arc (e.at + 1) f.at s.0 s.1,
        λ h. same_both e.arc f.arc (e.at + 1) f.at (ap (λ (v : Vertex). v.arc) h) (ap (λ (v : Vertex). v.at) h),
      );
      joined_back = (
        λ h. let s = both_same e.arc f.arc (f.at + 1) e.at h in vertex_named m e.arc f.arc e.at (f.at + 1) s.0 (sym s.1),
        λ h. same_both e.arc f.arc (f.at + 1) e.at (ap (λ (v : Vertex). v.arc) h) (sym (ap (λ (v : Vertex). v.at) h)),
      );
      other_starts = λ same. let none : e.at + 0 ≡ e.at = omega arith in let none' : f.at + 0 ≡ f.at = omega arith in
          names_differ m e f 0 before (ap (vertex_in m e.arc) none ∙ same ∙ sym (ap (vertex_in m f.arc) none'));
      other_ends = names_differ m e f 1 before;
    }

abbrev edge_ref : ℕ → ℕ → EdgeRef
edge_ref n at = record { arc = n; at = at }

lawful_or_held : (held : List ℕ) (m : Map) (e f : EdgeRef) → IsEarlier e f → (EdgesClash m e f → Contains held e.arc × Contains held f.arc)
    → ClashOnlyIfHeld held (named m e.arc e.at) (named m f.arc f.at)
lawful_or_held held m e f before clash =
    let law = clashes_are_unlawful (vertex_in m e.arc e.at) (vertex_in m e.arc (e.at + 1)) (vertex_in m f.arc f.at)
    (vertex_in m f.arc (f.at + 1)) (flags_between m e f) (flags_fit m e f before) in
    elim (held_or_not held e.arc) [
      | inr free ↦ inr (law.0 (λ c. free (clash c).0))
      | inl first ↦
          elim (held_or_not held f.arc) [
            | inr free ↦ inr (law.0 (λ c. free (clash c).1))
            | inl second ↦ inl (first, second)
          ]
    ]

held_by_clash : (held : List ℕ) (m : Map) (e f : EdgeRef) → IsEarlier e f → ClashOnlyIfHeld held (named m e.arc e.at) (named m f.arc f.at)
    → EdgesClash m e f → Contains held e.arc × Contains held f.arc
held_by_clash held m e f before (inl both) clash = both
held_by_clash held m e f before (inr lawful) clash =
    let law = clashes_are_unlawful (vertex_in m e.arc e.at) (vertex_in m e.arc (e.at + 1)) (vertex_in m f.arc f.at)
    (vertex_in m f.arc (f.at + 1)) (flags_between m e f) (flags_fit m e f before) in
    absurd (law.1 lawful clash)

-- ---- the law

by_list : (held : List ℕ) (m : Map) → IsMapArranged held m → IsMapArrangedBeside held m
by_list held m h =
    record {
      pairs = to_two (ClashOnlyIfHeld held) m 0 m.arcs refl (λ n at k to past inside there order.
          lawful_or_held held m (edge_ref n at) (edge_ref k to) order (h.clashes (edge_ref n at) (edge_ref k to) inside there order));
      off = λ p point.
          to_list (λ e. IsOnSegment e.start.place e.end.place p → Contains held e.start.arc) m 0 m.arcs refl
          (λ n at past inside on. h.points point.0 (edge_ref n at) point.1 inside
          (subst (λ (q : Place). IsOnSegment (vertex_in m n at).place (vertex_in m n (at + 1)).place q)
          (sym (found m.points point.0 p point.1 point.2)) on));
    }
  where
    found : (qs : List Place) (k : ℕ) (p : Place) → k < length qs → get_or qs k p ≡ p → get_or qs k nowhere ≡ p
    found [] k p below e = absurd (omega arith)
    found (q ∷ qs) zero p below e = e
    found (q ∷ qs) (suc k) p below e = found qs k p (omega arith) e

by_names : (held : List ℕ) (m : Map) → IsMapArrangedBeside held m → IsMapArranged held m
by_names held m h =
    record {
      clashes = λ e f inside there before clash. held_by_clash held m e f before
          (from_two (ClashOnlyIfHeld held) m 0 m.arcs refl h.pairs e.arc e.at f.arc f.at (omega arith) inside there before) clash;
      points = λ k e below inside on.
          from_list (λ x. IsOnSegment x.start.place x.end.place (get_or m.points k nowhere)
          → Contains held x.start.arc) m 0 m.arcs refl (h.off (get_or m.points k nowhere) (Contains-get_or m.points k nowhere below))
          e.arc e.at (omega arith) inside on;
    }

pub arranged_by_names : ArrangedByNames
arranged_by_names held m = (by_list held m, by_names held m)
