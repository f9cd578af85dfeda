-- Parts of one list, one behind the other: what they are where the list grows, and where one of them becomes shorter.
use Rattle.std.proofs.Common.{◌≡◌, ◌≢◌, ◌∙◌, ◌⊎◌, ℕ, ◌+◌, ◌-◌, ◌<◌, ◌≤◌, List, [], ◌∷◌, ◌++◌, All, AllPairs, map, length, get_or}
use Rattle.std.proofs.Common.{set, take, drop, slice_range, refl, sym, ap, subst, inl, inr, arith, append_assoc, length-append, length-drop}
use Rattle.std.proofs.Common.{length-set}
use Rattle.std.proofs.lemmas.Bool.{cases_lt, cases_eq}
use Rattle.std.proofs.lemmas.List.{get_or-map, get_or_append_left, length-map, length-take-le, ext_get_or, map-set, take-append-drop}
use Rattle.std.proofs.lemmas.List.{get_or-set_same, get_or-set_other, get_or_push}
use Rattle.std.proofs.lemmas.List.{take-append-le, drop-append-le, take_all, drop-drop}
use Rattle.std.proofs.lemmas.List.Elements.{All-head, All-tail}
use Rattle.std.proofs.lemmas.Simd.{map-map}
use Rattle.std.proofs.lemmas.Slice.{drop-append-drop}
use Rattle.std.proofs.Math.Seq.{drop-append_seam}
use Rattle.grid_exact.specs.Geometry.{Place}
use Rattle.arc_map.specs.Live.{LiveChain, chain_of, IsPartOf}
use Rattle.arc_map.specs.declared.refs.ChainRef.{ChainRef}
use Rattle.arc_map.specs.declared.work.Span.{Span}

pub places_of : (vs : List Place) (ss : List Span) → map (λ (c : LiveChain). c.place) (map (chain_of vs) ss) ≡ map (λ s. s.place) ss
places_of vs ss = map-map (λ (c : LiveChain). c.place) (chain_of vs) ss

-- ---- the list grows

grown_slice : (vs more : List Place) (start end : ℕ) → start ≤ end → end ≤ length vs
    → slice_range (vs ++ more) start end ≡ slice_range vs start end
grown_slice vs more start end order within =
    ap (take (end - start)) (drop-append-le start vs more (omega arith))
    ∙ take-append-le (end - start) (drop start vs) more (omega (arith, length-drop start vs))

pub grown_part : (vs more : List Place) (s : Span) → IsPartOf vs s → chain_of (vs ++ more) s ≡ chain_of vs s
grown_part vs more s part =
    let some = part.some in
    ap (λ ps. record { place = s.place; vertices = ps }) (grown_slice vs more s.start s.end (omega arith) part.within)

pub grown_parts : (vs more : List Place) (ss : List Span) → All (IsPartOf vs) ss → map (chain_of (vs ++ more)) ss ≡ map (chain_of vs) ss
grown_parts vs more [] parts = refl
grown_parts vs more (s ∷ ss) parts =
    let first = grown_part vs more s (All-head (IsPartOf vs) s ss parts) in
    let rest = grown_parts vs more ss (All-tail (IsPartOf vs) s ss parts) in
    cc

pub still_part : (vs more : List Place) (s : Span) → IsPartOf vs s → IsPartOf (vs ++ more) s
still_part vs more s part =
    let within = part.within in
    record { some = part.some; within = omega (arith, length-append vs more) }

-- the part that was added
pub last_part : (vs more : List Place) (place : ChainRef)
    → chain_of (vs ++ more) (record { place = place; start = length vs; end = length (vs ++ more) })
    ≡ record { place = place; vertices = more }
last_part vs more place =
    ap (λ ps. record { place = place; vertices = ps }) (ap (take (length (vs ++ more) - length vs)) (drop-append_seam vs more)
    ∙ take_all (length (vs ++ more) - length vs) more (omega (arith, length-append vs more)))

-- any two of the list and one more
pub pairs_more : (ss : List Span) (s : Span) (n : ℕ) → AllPairs (λ a b. a.end ≤ b.start) ss → ((k : ℕ) (d : Span) → k < length ss
    → (get_or ss k d).end ≤ n) → s.start ≡ n → AllPairs (λ a b. a.end ≤ b.start) (ss ++ s ∷ [])
pairs_more ss s n pairs ends start i j d before below =
    let count = length-append ss (s ∷ []) in
    let first = get_or_append_left ss (s ∷ []) d i (omega (arith, count)) in
    elim (cases_lt j (length ss)) [
      | inl inside ↦
          let second = get_or_append_left ss (s ∷ []) d j inside in
          rw (first, second) (pairs i j d before inside)
      | inr past ↦
          let last : j ≡ length ss = omega (arith, count) in
          let second : get_or (ss ++ s ∷ []) j d ≡ s = ap (λ k. get_or (ss ++ s ∷ []) k d) last ∙ get_or_push ss s d (length ss) refl in
          rw (first, second) (let e = ends i d (omega (arith, count)) in omega (arith, start))
    ]

-- ---- one part becomes shorter

-- the list whose elements from start to end are now these
abbrev pub with_part : List Place → ℕ → ℕ → List Place → List Place
with_part vs start end new = take start vs ++ (new ++ drop (end - start) (drop start vs))

pub length-with_part : (vs : List Place) (start end : ℕ) (new : List Place) → start ≤ end → end ≤ length vs → length new ≡ end - start
    → length (with_part vs start end new) ≡ length vs
length-with_part vs start end new order within count =
    omega (
      arith,
      count,
      length-append (take start vs) (new ++ drop (end - start) (drop start vs)),
      length-append new (drop (end - start) (drop start vs)),
      length-take-le start vs (omega arith),
      length-drop (end - start) (drop start vs),
      length-drop start vs,
    )

-- what lies before or behind is as it was
pub part_stays : (vs : List Place) (start end : ℕ) (new : List Place) (s : Span) → start ≤ end → end ≤ length vs → length new ≡ end - start
    → IsPartOf vs s → (s.end ≤ start) ⊎ (end ≤ s.start) → chain_of (with_part vs start end new) s ≡ chain_of vs s
part_stays vs start end new s order within count part side =
    ap (λ ps. record { place = s.place; vertices = ps }) (elim side [
      | inl before ↦
          let front = length-take-le start vs (omega arith) in
          let some = part.some in
          grown_slice (take start vs) (new ++ drop (end - start) (drop start vs)) s.start s.end (omega arith) (omega (arith, front))
          ∙ sym (grown_slice (take start vs) (drop start vs) s.start s.end (omega arith) (omega (arith, front)))
          ∙ ap (λ ps. slice_range ps s.start s.end) (take-append-drop start vs)
      | inr behind ↦
          let front = length-take-le start vs (omega arith) in
          let held : length (take start vs ++ new) ≡ end = omega (arith, front, count, length-append (take start vs) new) in
          let rest : drop (end - start) (drop start vs) ≡ drop end vs = drop-drop (end - start) start vs
          ∙ ap (λ n. drop n vs) (omega arith) in
          ap (λ ps. slice_range (take start vs ++ (new ++ ps)) s.start s.end) rest
          ∙ ap (λ ps. slice_range ps s.start s.end) (sym (append_assoc (take start vs) new (drop end vs)))
          ∙ ap (take (s.end - s.start)) (drop-append-drop end vs (take start vs ++ new) s.start behind held)
    ])

-- the front of the part that was written
pub part_written : (vs : List Place) (start end n : ℕ) (new : List Place) → start ≤ length vs → n ≤ length new
    → slice_range (with_part vs start end new) start (start + n) ≡ take n new
part_written vs start end n new within few =
    let front = length-take-le start vs within in
    let rest = new ++ drop (end - start) (drop start vs) in
    let size : start + n - start ≡ n = omega arith in
    ap (λ k. take k (drop start (take start vs ++ rest))) size
    ∙ ap (take n) (ap (λ k. drop k (take start vs ++ rest)) (sym front) ∙ drop-append_seam (take start vs) rest)
    ∙ take-append-le n new (drop (end - start) (drop start vs)) few

-- lists that are alike but at one place are one where that place is set
set_alike : {X : Type 0} (xs ys : List X) (k : ℕ) (v : X) → length xs ≡ length ys
    → ((j : ℕ) → j ≢ k → j < length xs → get_or xs j v ≡ get_or ys j v) → set xs k v ≡ set ys k v
set_alike xs ys k v count alike =
    ext_get_or v (set xs k v) (set ys k v) (length-set xs k v ∙ count ∙ sym (length-set ys k v)) (λ j below.
    elim (cases_eq j k) [
      | inl same ↦ rw (
        same,
        get_or-set_same xs k v v (omega (arith, length-set xs k v)),
        get_or-set_same ys k v v
            (omega (arith, count, length-set xs k v)),
      ) refl
      | inr other ↦ get_or-set_other xs k j v v other ∙ alike j other (omega (arith, length-set xs k v))
          ∙ sym (get_or-set_other ys k j v v other)
    ])

-- the chains where the part number k is shortened
pub parts_after : (vs : List Place) (ss : List Span) (k : ℕ) (x y : Span) (new : List Place) → k < length ss
    → ((d : Span) → get_or ss k d ≡ x) → IsPartOf vs x → length new ≡ x.end - x.start → All (IsPartOf vs) ss
    → AllPairs (λ a b. a.end ≤ b.start) ss
    → map (chain_of (with_part vs x.start x.end new)) (set ss k y)
    ≡ set (map (chain_of vs) ss) k (chain_of (with_part vs x.start x.end new) y)
parts_after vs ss k x y new here is part count parts apart =
    let now = with_part vs x.start x.end new in
    let some = part.some in
    map-set (chain_of now) ss k y
    ∙ set_alike (map (chain_of now) ss) (map (chain_of vs) ss) k (chain_of now y)
    (length-map ss (chain_of now) ∙ sym (length-map ss (chain_of vs))) (λ j other below.
    let inside : j < length ss = omega (arith, length-map ss (chain_of now)) in
    let s = get_or ss j x in
    let side : (s.end ≤ x.start) ⊎ (x.end ≤ s.start) = elim (cases_lt j k) [
      | inl before ↦ inl (subst (λ (t : Span). s.end ≤ t.start) (is x) (apart j k x before here))
      | inr not_before ↦ inr (subst (λ (t : Span). t.end ≤ s.start) (is x) (apart k j x (omega arith) inside))
    ] in
    get_or-map (chain_of now) ss j x (chain_of now y) inside
    ∙ part_stays vs x.start x.end new s (omega arith) part.within count (parts j x inside) side
    ∙ sym (get_or-map (chain_of vs) ss j x (chain_of now y) inside))

-- an element of the list of parts begins where it began, and ends there or before
record IsNoLonger (now before : Span) : Type 0 where
  start : now.start ≡ before.start
  end : now.end ≤ before.end

no_longer : (ss : List Span) (k : ℕ) (x y : Span) → k < length ss → ((d : Span) → get_or ss k d ≡ x) → IsNoLonger y x
    → (j : ℕ) (d : Span) → j < length ss → IsNoLonger (get_or (set ss k y) j d) (get_or ss j d)
no_longer ss k x y here is less j d inside =
    elim (cases_eq j k) [
      | inl same ↦ rw (same, get_or-set_same ss k y d here, is d) less
      | inr other ↦ rw (get_or-set_other ss k j y d other) (record { start = refl; end = omega arith })
    ]

pub apart_after : (ss : List Span) (k : ℕ) (x y : Span) → k < length ss → ((d : Span) → get_or ss k d ≡ x) → y.start ≡ x.start
    → y.end ≤ x.end → AllPairs (λ a b. a.end ≤ b.start) ss → AllPairs (λ a b. a.end ≤ b.start) (set ss k y)
apart_after ss k x y here is start end apart i j d before below =
    let inside : j < length ss = omega (arith, length-set ss k y) in
    let less : IsNoLonger y x = record { start = start; end = end } in
    let first = no_longer ss k x y here is less i d (omega arith) in
    let second = no_longer ss k x y here is less j d inside in
    let order = apart i j d before inside in
    omega (arith, first.end, second.start, order)

-- all are parts of a list that is as long
pub parts_of_alike : (vs now : List Place) (ss : List Span) → length now ≡ length vs → All (IsPartOf vs) ss → All (IsPartOf now) ss
parts_of_alike vs now ss same parts k d below =
    let part = parts k d below in
    let within = part.within in
    record { some = part.some; within = omega arith }
