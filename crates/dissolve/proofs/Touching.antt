-- Even ends, and crossings, of the odd arcs.
use Rattle.std.proofs.Common.{◌≡◌, ◌∙◌, ℕ, ◌+◌, ◌-◌, ◌<◌, ◌≤◌, ◌/◌, true, false, cond, List, [], ◌∷◌, Some, All, length, get_or, refl, sym}
use Rattle.std.proofs.Common.{ap, arith}
use Rattle.std.specs.Prelude.{slice_get, sum_by}
use Rattle.std.proofs.lemmas.Bool.{ltb-false}
use Rattle.std.proofs.lemmas.List.Elements.{All-head, All-tail}
use Rattle.std.proofs.lemmas.List.Sums.{sum_by-cons}
use Rattle.std.proofs.lemmas.Option.{slice_get-get_or}
use Rattle.grid_exact.specs.Geometry.{Place}
use Rattle.grid_exact.specs.Walks.{is_odd, differ}
use Rattle.grid_exact.proofs.Walks.{differ_itself}
use Rattle.arc_map.specs.Map.{Map, IsMap}
use Rattle.arc_map.specs.Arcs.{is_list_crossed_oddly, is_inside_of}
use Rattle.arc_map.specs.Arranged.{arc_at, nowhere}
use Rattle.arc_map.specs.Ends.{is_same}
use Rattle.topo_reader.specs.Arcs.{last_of}
use Rattle.topo_reader.specs.Ends.{times_at, ends_at, named_ends, HasEvenEnds}
use Rattle.face_parity.specs.Parities.{pass_oddly}
use Rattle.face_parity.proofs.Lowest.{inside-sum}
use Rattle.face_parity.proofs.Sums.{pass-agree, pass-append}
use Rattle.dissolve.specs.Odd.{named_arcs, has_edge, odd_arcs}
use Rattle.dissolve.specs.Walk.{does_touch, IsEven}
use Rattle.dissolve.proofs.Booleans.{odd-sum, odd-even}
use Rattle.dissolve.proofs.Cancelling.{odd-cancelled}

-- ---- the ends of one arc

times-odd : (q r : Place) → is_odd (times_at q (Some r)) ≡ is_same r q
times-odd q r = elim (is_same r q) as (λ b. is_odd (cond b 1 0) ≡ b) [ true ↦ refl | false ↦ refl ]

end-odd : (q : Place) (ps : List Place) (k : ℕ) → k < length ps → is_odd (times_at q (slice_get ps k)) ≡ is_same (get_or ps k nowhere) q
end-odd q ps k within = ap (λ o. is_odd (times_at q o)) (slice_get-get_or ps k nowhere within) ∙ times-odd q (get_or ps k nowhere)

ends-odd : (q : Place) (ps : List Place) → is_odd (ends_at q ps)
    ≡ differ (is_same (get_or ps 0 nowhere) q) (is_same (get_or ps (length ps - 1) nowhere) q)
ends-odd q [] = sym (differ_itself (is_same nowhere q))
ends-odd q (p ∷ ps) =
    odd-sum (times_at q (Some p)) (times_at q (last_of (p ∷ ps)))
    ∙ ap (λ b. differ b (is_odd (times_at q (last_of (p ∷ ps))))) (times-odd q p)
    ∙ ap (differ (is_same p q)) (end-odd q (p ∷ ps) (length (p ∷ ps) - 1) (omega arith))

few-positions : (m : Map) (k : ℕ) → has_edge m k ≡ false → length (arc_at m k) ≤ 1
few-positions m k none = ltb-false 1 (length (arc_at m k)) none

-- an arc without an edge touches nothing, and is not crossed
touches-none : (m : Map) (q : Place) (k : ℕ) → has_edge m k ≡ false → does_touch m q k ≡ false
touches-none m q k none =
    let few = few-positions m k none in
    let last : length (arc_at m k) - 1 ≡ 0 = omega (arith, few) in
    ap (λ i. differ (is_same (get_or (arc_at m k) 0 nowhere) q) (is_same (get_or (arc_at m k) i nowhere) q)) last
    ∙ differ_itself (is_same (get_or (arc_at m k) 0 nowhere) q)

short-crossed : (p : Place) (ps : List Place) → length ps ≤ 1 → is_list_crossed_oddly p ps ≡ false
short-crossed p [] few = refl
short-crossed p (q ∷ []) few = refl
short-crossed p (q ∷ r ∷ rs) few = absurd (omega (arith, few))

-- ---- the ends of the arcs that are named

sum-odd : {X : Type 0} (f : X → ℕ) (xs : List X) → is_odd (sum_by f xs) ≡ pass_oddly (λ x. is_odd (f x)) xs
sum-odd f [] = refl
sum-odd f (x ∷ xs) = ap is_odd (sum_by-cons f x xs) ∙ odd-sum (f x) (sum_by f xs) ∙ ap (differ (is_odd (f x))) (sum-odd f xs)

polygon-even : (m : Map) (numbers : List ℕ) → HasEvenEnds m.arcs numbers → (q : Place) → pass_oddly (does_touch m q) numbers ≡ false
polygon-even m numbers even q =
    let total = named_ends m.arcs q numbers in
    let whole : total ≡ total / 2 + total / 2 = let h = even q in omega (arith, h) in
    pass-agree (does_touch m q) (λ k. is_odd (ends_at q (get_or m.arcs k []))) numbers (λ i d within.
    sym (ends-odd q (get_or m.arcs (get_or numbers i d) [])))
    ∙ sym (sum-odd (λ k. ends_at q (get_or m.arcs k [])) numbers)
    ∙ odd-even total (total / 2) whole

named-even : (m : Map) (polygons : List ℕ) → All (λ k. HasEvenEnds m.arcs (get_or m.polygons k [])) polygons → (q : Place)
    → pass_oddly (does_touch m q) (named_arcs m polygons) ≡ false
named-even m [] even q = refl
named-even m (k ∷ ks) even q =
    pass-append (does_touch m q) (get_or m.polygons k []) (named_arcs m ks)
    ∙ ap (λ b. differ b (pass_oddly (does_touch m q) (named_arcs m ks)))
    (polygon-even m (get_or m.polygons k []) (All-head (λ i. HasEvenEnds m.arcs (get_or m.polygons i [])) k ks even) q)
    ∙ named-even m ks (All-tail (λ i. HasEvenEnds m.arcs (get_or m.polygons i [])) k ks even) q

pub even-at-start : (m : Map) (polygons : List ℕ) → IsMap m → All (λ k. k < length m.polygons) polygons
    → All (λ k. HasEvenEnds m.arcs (get_or m.polygons k [])) polygons → IsEven m (odd_arcs m polygons)
even-at-start m polygons is known even q = sym (odd-cancelled m polygons (does_touch m q) is known (touches-none m q))
    ∙ named-even m polygons even q

-- ---- crossings

pub odd-crossed : (m : Map) (polygons : List ℕ) (p : Place) → IsMap m → All (λ k. k < length m.polygons) polygons
    → is_inside_of p m.arcs (odd_arcs m polygons) ≡ is_inside_of p m.arcs (named_arcs m polygons)
odd-crossed m polygons p is known =
    inside-sum p m.arcs (odd_arcs m polygons)
    ∙ sym (odd-cancelled m polygons (λ arc. is_list_crossed_oddly p (get_or m.arcs arc [])) is known (λ k none.
    short-crossed p (arc_at m k) (few-positions m k none)))
    ∙ sym (inside-sum p m.arcs (named_arcs m polygons))
