-- From below a part of a polygon whose ends are paired an even number of its edges are crossed.
use Rattle.std.proofs.Common.{◌≡◌, ◌∙◌, ℕ, ◌+◌, ◌^◌, ◌<◌, ◌≤◌, Bool, true, false, List, [], ◌∷◌, ◌++◌, All, append_assoc, length}
use Rattle.std.proofs.Common.{get_or, drop, take, min, refl, sym, ap, subst, arith, inl, inr}
use Rattle.std.specs.Prelude.{ℤ, slice_get, Some, nat_lt}
use Rattle.std.specs.List.Sorted.{IsPermutation}
use Rattle.std.proofs.lemmas.Bool.{cases_lt}
use Rattle.std.proofs.lemmas.List.{drop_more, get_or_append_left, get_or_push, length_push}
use Rattle.std.proofs.lemmas.List.Elements.{All-get_or, All-more, All-weaker}
use Rattle.std.proofs.lemmas.Int.{ints}
use Rattle.std.proofs.lemmas.Option.{get_or_from_slice_get}
use Rattle.grid_exact.specs.Geometry.{Place, IsGridNumber, IsOnGrid}
use Rattle.grid_exact.specs.Walks.{differ}
use Rattle.arc_map.specs.Map.{IsArc, Map}
use Rattle.arc_map.specs.Arcs.{is_inside_of, is_list_crossed_oddly}
use Rattle.arc_map.specs.Arranged.{arc_at}
use Rattle.sweep_index.specs.Offsets.{offset_of}
use Rattle.sweep_index.proofs.Reading.{some_position}
use Rattle.face_parity.specs.Bounds.{IsOffsetOf, do_part}
use Rattle.face_parity.specs.Floors.{AreSpansTo, IsFloorOver, IsSpanOf, ends_along, no_span, span_at}
use Rattle.face_parity.specs.Parities.{pass_oddly}
use Rattle.face_parity.specs.declared.floors.Span.{Span}
use Rattle.grid_exact.proofs.Walks.{differ_assoc}
use Rattle.face_parity.proofs.Seen.{above-ends, offset-is}
use Rattle.face_parity.proofs.Sums.{pass-agree, pass-permutation}

-- ---- pairs

pub differ-twice : (b c : Bool) → differ b (differ b c) ≡ c
differ-twice true true = refl
differ-twice true false = refl
differ-twice false c = refl

-- two equal numbers make no difference
pub pair-more : (xs : List ℕ) (at : ℕ) (test : ℕ → Bool) → at + 1 < length xs → get_or xs at 0 ≡ get_or xs (at + 1) 0
    → pass_oddly test (drop at xs) ≡ pass_oddly test (drop (at + 2) xs)
pair-more xs at test within same =
    let next : at + 1 + 1 ≡ at + 2 = omega arith in
    let here : at < length xs = omega (arith, within) in
    ap (pass_oddly test) (drop_more xs at 0 here ∙ ap (λ ys. get_or xs at 0 ∷ ys) (drop_more xs (at + 1) 0 within))
    ∙ ap (λ x. differ (test x) (differ (test (get_or xs (at + 1) 0)) (pass_oddly test (drop (at + 1 + 1) xs)))) same
    ∙ differ-twice (test (get_or xs (at + 1) 0)) (pass_oddly test (drop (at + 1 + 1) xs))
    ∙ ap (λ n. pass_oddly test (drop n xs)) next

-- ---- ends

-- the arcs that are parted are as odd as the ends that are left of x
pass-ends : (spans : List Span) (x : ℕ) (refs : List ℕ) → pass_oddly (λ e. nat_lt e x) (ends_along spans refs)
    ≡ pass_oddly (λ arc. do_part (span_at spans arc).ends x) refs
pass-ends spans x [] = refl
pass-ends spans x (arc ∷ refs) =
    differ_assoc (nat_lt (span_at spans arc).ends.first x) (nat_lt (span_at spans arc).ends.last x)
    (pass_oddly (λ e. nat_lt e x) (ends_along spans refs))
    ∙ ap (differ (do_part (span_at spans arc).ends x)) (pass-ends spans x refs)

pub floor-by-pairs : (spans : List Span) (refs ends sorted : List ℕ) (low : ℕ) → ends ≡ ends_along spans refs → IsPermutation ends sorted
    → ((test : ℕ → Bool) → pass_oddly test sorted ≡ false) → All (λ arc. low ≤ (span_at spans arc).low) refs → IsFloorOver spans refs low
floor-by-pairs spans refs ends sorted low is moves paired lows = record {
  low = lows;
  even = λ x y less. sym (pass-ends spans x refs) ∙ ap (pass_oddly (λ e. nat_lt e x)) (sym is)
      ∙ sym (pass-permutation (λ e. nat_lt e x) ends sorted moves) ∙ paired (λ e. nat_lt e x);
}

-- the ends of an arc more
pub ends-more : (spans : List Span) (refs : List ℕ) (i : ℕ) (old mid new whole : List ℕ) → i < length refs
    → mid ≡ old ++ (span_at spans (get_or refs i 0)).ends.first ∷ [] → new ≡ mid ++ (span_at spans (get_or refs i 0)).ends.last ∷ []
    → old ++ ends_along spans (drop i refs) ≡ whole → new ++ ends_along spans (drop (i + 1) refs) ≡ whole
ends-more spans refs i old mid new whole within first last so_far =
    let f = (span_at spans (get_or refs i 0)).ends.first in
    let l = (span_at spans (get_or refs i 0)).ends.last in
    let rest = ends_along spans (drop (i + 1) refs) in
    ap (λ xs. xs ++ rest) (last ∙ ap (λ xs. xs ++ l ∷ []) first)
    ∙ append_assoc (old ++ f ∷ []) (l ∷ []) rest
    ∙ append_assoc old (f ∷ []) (l ∷ rest)
    ∙ ap (λ xs. old ++ ends_along spans xs) (sym (drop_more refs i 0 within))
    ∙ so_far

pub low-more : (spans : List Span) (refs : List ℕ) (i low new : ℕ) → i < length refs → new ≡ min low (span_at spans (get_or refs i 0)).low
    → All (λ arc. low ≤ (span_at spans arc).low) (take i refs) → All (λ arc. new ≤ (span_at spans arc).low) (take (i + 1) refs)
low-more spans refs i low new within is so_far =
    All-more (λ arc. new ≤ (span_at spans arc).low) refs i 0 within
    (All-weaker (λ arc. low ≤ (span_at spans arc).low) (λ arc. new ≤ (span_at spans arc).low) (λ arc under. omega (arith, under, is))
    (take i refs) so_far)
    (omega (arith, is))

-- ---- the polygon

pub inside-sum : (p : Place) (arcs : List (List Place)) (refs : List ℕ)
    → is_inside_of p arcs refs ≡ pass_oddly (λ arc. is_list_crossed_oddly p (get_or arcs arc [])) refs
inside-sum p arcs [] = refl
inside-sum p arcs (arc ∷ refs) = ap (differ (is_list_crossed_oddly p (get_or arcs arc []))) (inside-sum p arcs refs)

offset-low : (z : ℤ) → IsGridNumber z → offset_of z ≤ 2 ^ 30
offset-low z grid = let is = offset-is z grid in let high = grid.high in omega (arith, ints, is, high)

offset-at : (p : Place) → IsOnGrid p → IsOffsetOf p (record { x = offset_of p.x; y = offset_of p.y })
offset-at p on_grid = record { on_grid = on_grid; x = refl; y = refl; small = (offset-low p.x on_grid.across, offset-low p.y on_grid.up) }

-- the spans of all arcs of the map, each of which has a position
pub below-floor : (m : Map) (spans : List Span) (refs : List ℕ) (floor : ℕ) → AreSpansTo m (length m.arcs) spans
    → All (λ arc. 0 < length (arc_at m arc)) refs → All (λ arc. arc < length m.arcs) refs → IsFloorOver spans refs floor → (p : Place)
    → IsOnGrid p → offset_of p.y < floor → is_inside_of p m.arcs refs ≡ false
below-floor m spans refs floor are some within over p on_grid less =
    inside-sum p m.arcs refs
    ∙ pass-agree (λ arc. is_list_crossed_oddly p (arc_at m arc)) (λ arc. do_part (span_at spans arc).ends (offset_of p.x)) refs
    (λ k d inside.
    let arc = get_or refs k d in
    let span = are.each arc (within k d inside) in
    let low = over.low k d inside in
    above-ends p (record { x = offset_of p.x; y = offset_of p.y }) (offset-at p on_grid) (arc_at m arc) (span_at spans arc).low
    (span_at spans arc).ends (some k d inside) span.low (omega (arith, low, less)) span.ends)
    ∙ over.even (offset_of p.x) (offset_of p.y) less

-- ---- spans, arc after arc

pub spans-none : (m : Map) → AreSpansTo m 0 []
spans-none m = record { count = refl; each = λ arc none. absurd (omega (arith, none)) }

pub spans-more : (m : Map) (arc : ℕ) (spans : List Span) (s : Span) (ps : List Place) → slice_get m.arcs arc ≡ Some ps → IsSpanOf ps s
    → AreSpansTo m arc spans → AreSpansTo m (arc + 1) (spans ++ s ∷ [])
spans-more m arc spans s ps is span are = record {
  count = length_push spans s ∙ ap (λ n. n + 1) are.count;
  each = λ k less. elim (cases_lt k arc) [
    | inl before ↦ subst (IsSpanOf (arc_at m k))
        (sym (get_or_append_left spans (s ∷ []) no_span k (let count = are.count in omega (arith, before, count)))) (are.each k before)
    | inr late ↦
        let here : k ≡ arc = omega (arith, late, less) in
        let mine : ps ≡ arc_at m k = sym (get_or_from_slice_get m.arcs arc ps [] is) ∙ ap (arc_at m) (sym here) in
        subst (IsSpanOf (arc_at m k)) (sym (get_or_push spans s no_span k (are.count ∙ sym here))) (subst (λ qs. IsSpanOf qs s) mine span)
  ];
}

-- ---- parts

-- from below the floor of a part an even number of its edges are crossed
pub part-even : (m : Map) (spans : List Span) (floor : ℕ) (part : List ℕ) → AreSpansTo m (length m.arcs) spans → All IsArc m.arcs
    → All (λ arc. arc < length m.arcs) part → IsFloorOver spans part floor → (p : Place) → IsOnGrid p → offset_of p.y < floor
    → is_inside_of p m.arcs part ≡ false
part-even m spans floor part are arcs within over p on_grid less =
    below-floor m spans part floor are (λ i d inside. some_position (arc_at m (get_or part i d))
    (All-get_or IsArc m.arcs (get_or part i d) [] (within i d inside) arcs)) within over p on_grid less
