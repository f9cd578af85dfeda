-- The spans of a map, as they are gathered arc by arc.
use Rattle.std.proofs.Common.{◌≡◌, ◌⊎◌, ◌∙◌, ◌+◌, ◌-◌, ◌<◌, inl, inr, ℕ, Bool, List, [], ◌∷◌, ◌++◌, length, get_or, Some, sym, ap, subst}
use Rattle.std.proofs.Common.{arith}
use Rattle.std.specs.Prelude.{slice_get}
use Rattle.std.specs.List.Sorted.{IsPermutation}
use Rattle.std.proofs.lemmas.Bool.{cases_lt}
use Rattle.std.proofs.lemmas.List.{get_or_default}
use Rattle.std.proofs.lemmas.List.Elements.{All-nil, All-push, Contains-append_left, Contains-push}
use Rattle.std.proofs.lemmas.List.Sorted.{All-permutation, Contains-permutation}
use Rattle.grid_exact.specs.Geometry.{Place, IsBefore}
use Rattle.grid_exact.proofs.Orders.{compared}
use Rattle.grid_exact.proofs.Orders.Compared.{Before, Same, After}
use Rattle.arc_map.specs.Map.{IsArc, Map}
use Rattle.arc_map.specs.Arranged.{IsMapEdge, arc_at, nowhere}
use Rattle.arc_map.specs.declared.refs.EdgeRef.{EdgeRef}
use Rattle.sweep_index.specs.Things.{IsEdgeBefore}
use Rattle.arrangement_check.proofs.Positions.{arc_in, arc_is, ends_differ}
use Rattle.plane_sweep.specs.declared.spans.Corner.{Corner}
use Rattle.plane_sweep.specs.declared.spans.Span.{Span}
use Rattle.plane_sweep.specs.Spans.{AreSpansBefore, AreSpansOf, HasSpan, IsSpanAt, IsSpanOf, corner_in}

-- ---- one edge

pub same_corner : (v : Corner) (arc at : ℕ) (end : Bool) (place : Place) → v.arc ≡ arc → v.at ≡ at → v.is_end ≡ end → v.place ≡ place
    → v ≡ (let w : Corner = record { arc = arc; at = at; is_end = end; place = place } in w)
same_corner v arc at end place p q r s =
    ap (λ (k : ℕ). let w : Corner = record { arc = k; at = v.at; is_end = v.is_end; place = v.place } in w) p
    ∙ ap (λ (k : ℕ). let w : Corner = record { arc = arc; at = k; is_end = v.is_end; place = v.place } in w) q
    ∙ ap (λ (b : Bool). let w : Corner = record { arc = arc; at = at; is_end = b; place = v.place } in w) r
    ∙ ap (λ (p : Place). let w : Corner = record { arc = arc; at = at; is_end = end; place = p } in w) s

pub turned_rises : (ps : List Place) (at : ℕ) (a b : Place) → IsArc ps → at + 1 < length ps → a ≡ get_or ps at nowhere
    → b ≡ get_or ps (at + 1) nowhere → ¬ (IsBefore a b) → IsBefore b a
turned_rises ps at a b is_arc within first second not_before =
    elim (compared a b) [
      | Before h ↦ absurd (not_before h)
      | Same e ↦ absurd (ends_differ ps at a b is_arc within (first ∙ get_or_default ps at nowhere a (omega (arith, within))) (second
          ∙ get_or_default ps (at + 1) nowhere b within) e)
      | After h ↦ h
    ]

in_map_by : (m : Map) (arc at : ℕ) (s : Span) → at + 1 < length (arc_at m arc) → IsSpanAt (arc_at m arc) arc at s → IsSpanOf m s
in_map_by m arc at s within is =
    let named = sym is.named in
    record {
      edge = subst (λ (e : EdgeRef). IsMapEdge m e) named within;
      ends = subst (λ (e : EdgeRef). ((s.low ≡ corner_in m e.arc e.at) × (s.high ≡ corner_in m e.arc (e.at + 1)))
          ⊎ ((s.low ≡ corner_in m e.arc (e.at + 1)) × (s.high ≡ corner_in m e.arc e.at))) named is.ends;
      rising = is.rising;
    }

in_map : (m : Map) (arc at : ℕ) (ps : List Place) (s : Span) → slice_get m.arcs arc ≡ Some ps → at + 1 < length ps → IsSpanAt ps arc at s
    → IsSpanOf m s
in_map m arc at ps s read within is =
    let same = sym (arc_is m arc ps read) in
    in_map_by m arc at s (subst (λ qs. at + 1 < length qs) same within) (subst (λ qs. IsSpanAt qs arc at s) same is)

-- ---- one more

grown : (spans : List Span) (s : Span) (e : EdgeRef) → HasSpan spans e → HasSpan (spans ++ s ∷ []) e
grown spans s e has = record { span = has.span; held = Contains-append_left spans (s ∷ []) has.span has.held; is = has.is }

names_are : (e : EdgeRef) (arc at : ℕ) → e.arc ≡ arc → e.at ≡ at → (let f : EdgeRef = record { arc = arc; at = at } in f) ≡ e
names_are e arc at p q =
    sym (ap (λ (k : ℕ). let f : EdgeRef = record { arc = k; at = e.at } in f) p
    ∙ ap (λ (k : ℕ). let f : EdgeRef = record { arc = arc; at = k } in f) q)

found : (m : Map) (arc at : ℕ) (ps : List Place) (spans : List Span) (s : Span) → IsSpanAt ps arc at s → AreSpansBefore m arc at spans
    → (e : EdgeRef) → IsMapEdge m e → IsEdgeBefore arc (at + 1) e → HasSpan (spans ++ s ∷ []) e
found m arc at ps spans s is are e edge (inl before) = grown spans s e (are.all e edge (inl before))
found m arc at ps spans s is are e edge (inr here) = let below = here.1 in elim (cases_lt e.at at) [
  | inl less ↦ grown spans s e (are.all e edge (inr (here.0, less)))
  | inr least ↦ record { span = s; held = Contains-push spans s; is = is.named ∙ names_are e arc at here.0 (omega (arith, least, below)) }
]

pub with_span : (m : Map) (arc at : ℕ) (ps : List Place) (spans : List Span) (s : Span) → slice_get m.arcs arc ≡ Some ps
    → at + 1 < length ps → IsSpanAt ps arc at s → AreSpansBefore m arc at spans → AreSpansBefore m arc (at + 1) (spans ++ s ∷ [])
with_span m arc at ps spans s read within is are = record {
  only = All-push (IsSpanOf m) spans s are.only (in_map m arc at ps s read within is);
  all = found m arc at ps spans s is are;
}

-- ---- one arc, and all

pub arc_done : (m : Map) (arc : ℕ) (spans : List Span) → AreSpansBefore m arc (length (arc_at m arc) - 1) spans
    → AreSpansBefore m (arc + 1) 0 spans
arc_done m arc spans are = record { only = are.only; all = λ e edge before. are.all e edge (before_done e edge before) }
  where
    before_done : (e : EdgeRef) → IsMapEdge m e → IsEdgeBefore (arc + 1) 0 e → IsEdgeBefore arc (length (arc_at m arc) - 1) e
    before_done e edge (inr none) = let n = none.1 in absurd (omega (arith, n))
    before_done e edge (inl before) = elim (cases_lt e.arc arc) [
      | inl less ↦ inl less
      | inr least ↦
          let same : e.arc ≡ arc = omega (arith, least, before) in
          let within : e.at + 1 < length (arc_at m arc) = subst (λ k. e.at + 1 < length (arc_at m k)) same edge in
          inr (same, omega (arith, within))
    ]

pub no_spans : (m : Map) → AreSpansBefore m 0 0 []
no_spans m = record { only = All-nil (IsSpanOf m); all = λ e edge before. absurd (none e before) }
  where
    none : (e : EdgeRef) → IsEdgeBefore 0 0 e → ⊥
    none e (inl h) = omega (arith, h)
    none e (inr h) = let k = h.1 in omega (arith, k)

pub spans_done : (m : Map) (spans : List Span) → AreSpansBefore m (length m.arcs) 0 spans → AreSpansOf m spans
spans_done m spans are = record { only = are.only; all = λ e edge. are.all e edge (inl (arc_in m e edge)) }

pub spans_reordered : (m : Map) (spans sorted : List Span) → IsPermutation spans sorted → AreSpansOf m spans → AreSpansOf m sorted
spans_reordered m spans sorted moved are = record {
  only = All-permutation (IsSpanOf m) spans sorted moved are.only;
  all = λ e edge. let has = are.all e edge in record {
    span = has.span;
    held =
        Contains-permutation spans sorted has.span moved has.held;
    is = has.is;
  };
}
