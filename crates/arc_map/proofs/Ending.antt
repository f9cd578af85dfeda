-- The chains that end at a place, one more at a time.
use Rattle.std.proofs.Common.{◌≡◌, ◌≢◌, ◌↔◌, ◌∙◌, ℕ, ◌+◌, ◌-◌, ◌<◌, ◌≤◌, List, [], ◌∷◌, ◌++◌, cond, map, length, get_or, set, drop}
use Rattle.std.proofs.Common.{Contains, AllPairs, refl, sym, ap, subst, inl, inr, arith, length-append, length-set, get_or-set_same}
use Rattle.std.proofs.Common.{get_or-set_other}
use Rattle.std.specs.List.Sorted.{IsStrictlyIncreasing}
use Rattle.std.proofs.lemmas.Bool.{cases_lt}
use Rattle.std.proofs.lemmas.List.{length-map}
use Rattle.std.proofs.lemmas.List.Elements.{Contains-get_or, Contains-append_left, Contains-push, Contains-push_cases}
use Rattle.std.proofs.Math.ListN.{get_or-append}
use Rattle.std.proofs.Math.Seq.{get_or-append_seam}
use Rattle.grid_exact.specs.Geometry.{Place}
use Rattle.grid_exact.specs.Walks.{end_of}
use Rattle.arc_map.specs.Vertices.{Vertex, places}
use Rattle.arc_map.specs.Chains.{Chain, chain_at, chain_places, no_chain, thinned, EndsAt}
use Rattle.arc_map.specs.Paths.{vertex_at, vertices_at}
use Rattle.arc_map.specs.Work.{AreKeptIn}
use Rattle.arc_map.specs.Ends.{EndLists, IsEndTable, is_same, AreChainsEndingAt}
use Rattle.arc_map.proofs.Listing.{compared_places}
use Rattle.arc_map.proofs.Listing.Same.{Yes, No}

-- the numbers below n of the chains with an end at p
pub record AreEndingBelow (chains : List Chain) (n : ℕ) (p : Place) (numbers : List ℕ) : Type 0 where
  pub rising : IsStrictlyIncreasing numbers
  pub all : (k : ℕ) → Contains numbers k ↔ ((k < n) × EndsAt p (chain_at chains k))

pub all_ending : (chains : List Chain) (n : ℕ) (p : Place) (numbers : List ℕ) → n ≡ length chains → AreEndingBelow chains n p numbers
    → AreChainsEndingAt chains p numbers
all_ending chains n p numbers e are = let all = subst (λ m. AreEndingBelow chains m p numbers) e are in
    record { rising = all.rising; all = all.all }

-- ---- one number more

rising-push : (numbers : List ℕ) (n : ℕ) → IsStrictlyIncreasing numbers → ((k : ℕ) → k < length numbers → get_or numbers k 0 < n)
    → IsStrictlyIncreasing (numbers ++ n ∷ [])
rising-push numbers n rising below k within =
    let count = length-append numbers (n ∷ []) in
    elim (cases_lt (k + 1) (length numbers)) [
      | inl inside ↦
          let here = get_or-append numbers (n ∷ []) 0 k (omega arith) in
          let next = get_or-append numbers (n ∷ []) 0 (k + 1) inside in
          omega (arith, here, next, rising k inside)
      | inr outside ↦
          let last : k + 1 ≡ length numbers = omega arith in
          let here = get_or-append numbers (n ∷ []) 0 k (omega arith) in
          let next : get_or (numbers ++ n ∷ []) (k + 1) 0 ≡ n = rw last (get_or-append_seam numbers n [] 0) in
          omega (arith, here, next, below k (omega arith))
    ]

pub ends_more : (chains : List Chain) (n : ℕ) (p : Place) (numbers : List ℕ) → EndsAt p (chain_at chains n)
    → AreEndingBelow chains n p numbers → AreEndingBelow chains (n + 1) p (numbers ++ n ∷ [])
ends_more chains n p numbers ends are = record {
  rising = rising-push numbers n are.rising (λ k inside. ((are.all (get_or numbers k 0)).0 (Contains-get_or numbers k 0 inside)).0);
  all = λ k. (
    λ has. elim (Contains-push_cases numbers n k has) [
      | inl before ↦ let known = (are.all k).0 before in (let below = known.0 in omega arith, known.1)
      | inr last ↦ (omega arith, subst (λ j. EndsAt p (chain_at chains j)) last ends)
    ],
    λ known. elim (cases_lt k n) [
      | inl below ↦ Contains-append_left numbers (n ∷ []) k ((are.all k).1 (below, known.1))
      | inr past ↦
          let bound = known.0 in
          let same : n ≡ k = omega arith in
          subst (λ j. Contains (numbers ++ n ∷ []) j) same (Contains-push numbers n)
    ],
  );
}

pub ends_same : (chains : List Chain) (n : ℕ) (p : Place) (numbers : List ℕ) → ¬ (EndsAt p (chain_at chains n))
    → AreEndingBelow chains n p numbers → AreEndingBelow chains (n + 1) p numbers
ends_same chains n p numbers elsewhere are = record {
  rising = are.rising;
  all = λ k. (
    λ has. let known = (are.all k).0 has in (let below = known.0 in omega arith, known.1),
    λ known. elim (cases_lt k n) [
      | inl below ↦ (are.all k).1 (below, known.1)
      | inr past ↦
          let bound = known.0 in
          let same : k ≡ n = omega arith in
          absurd (elsewhere (subst (λ j. EndsAt p (chain_at chains j)) same known.1))
    ],
  );
}

-- ---- the ends of one chain

-- the list of p after the chain number n was added at its first and at its last place
abbrev pub added_at : Place → Place → ℕ → Place → List ℕ → List ℕ
added_at first last n p numbers = cond (is_same p last) (cond (is_same p first) (numbers ++ n ∷ []) numbers ++ n ∷ [])
    (cond (is_same p first) (numbers ++ n ∷ []) numbers)

pub ends_added : (chains : List Chain) (n : ℕ) (p : Place) (numbers : List ℕ)
    → (chain_at chains n).first.place ≢ (end_of (chain_at chains n).first (chain_at chains n).rest).place
    → AreEndingBelow chains n p numbers → AreEndingBelow chains (n + 1) p
    (added_at (chain_at chains n).first.place (end_of (chain_at chains n).first (chain_at chains n).rest).place n p numbers)
ends_added chains n p numbers differ are =
    let first = (chain_at chains n).first.place in
    let last = (end_of (chain_at chains n).first (chain_at chains n).rest).place in
    elim (compared_places p last) [
      | Yes at_last e ↦ elim (compared_places p first) [
        | Yes at_first f ↦ absurd (differ (sym f ∙ e))
        | No off_first f ↦ rw (at_last, off_first) (ends_more chains n p numbers (inr (sym e)) are)
      ]
      | No off_last e ↦ elim (compared_places p first) [
        | Yes at_first f ↦ rw (off_last, at_first) (ends_more chains n p numbers (inl (sym f)) are)
        | No off_first f ↦ rw (off_last, off_first) (ends_same chains n p numbers (λ ends.
            elim ends [ inl g ↦ f (sym g) | inr g ↦ e (sym g) ]) are)
      ]
    ]

-- the last place of a walk
pub last_place : (v : Vertex) (ws : List Vertex) (d : Place) → get_or (v.place ∷ places ws) (length ws) d ≡ (end_of v ws).place
last_place v [] d = refl
last_place v (w ∷ ws) d = last_place w ws d

-- ---- thinned chains

end_vertex : (v : Vertex) (ws : List Vertex) (d : Vertex) → get_or (v ∷ ws) (length ws) d ≡ end_of v ws
end_vertex v [] d = refl
end_vertex v (w ∷ ws) d = end_vertex w ws d

end_of-mapped : (f : ℕ → Vertex) (i : ℕ) (is : List ℕ) → end_of (f i) (map f is) ≡ f (get_or (i ∷ is) (length is) 0)
end_of-mapped f i [] = refl
end_of-mapped f i (j ∷ js) = end_of-mapped f j js

end_kept : (c : Chain) (kept : List ℕ) → AreKeptIn c kept → end_of c.first (vertices_at c (drop 1 kept)) ≡ end_of c.first c.rest
end_kept c [] keep = let some = keep.some in absurd (omega arith)
end_kept c (i ∷ is) keep =
    let count : length (i ∷ is) - 1 ≡ length is = omega arith in
    let last : get_or (i ∷ is) (length is) 0 ≡ length c.rest = ap (λ n. get_or (i ∷ is) n 0) (sym count) ∙ keep.last in
    ap (λ v. end_of v (vertices_at c is)) (sym (ap (vertex_at c) keep.first)) ∙ end_of-mapped (vertex_at c) i is ∙ ap (vertex_at c) last
    ∙ end_vertex c.first c.rest c.first

same_ends : (c d : Chain) (p : Place) → d.first ≡ c.first → end_of d.first d.rest ≡ end_of c.first c.rest → EndsAt p c ↔ EndsAt p d
same_ends c d p first last = (
  λ ends. elim ends [ inl e ↦ inl (ap (λ (v : Vertex). v.place) first ∙ e) | inr e ↦ inr (ap (λ (v : Vertex). v.place) last ∙ e) ],
  λ ends. elim ends [
    | inl e ↦ inl (ap (λ (v : Vertex). v.place) (sym first) ∙ e)
    | inr e ↦ inr (ap (λ (v : Vertex). v.place) (sym last) ∙ e)
  ],
)

ends_of_thinned : (chains : List Chain) (k : ℕ) (kept : List ℕ) (l : ℕ) (p : Place) → k < length chains → AreKeptIn (chain_at chains k) kept
    → EndsAt p (chain_at chains l) ↔ EndsAt p (chain_at (thinned chains k (vertices_at (chain_at chains k) (drop 1 kept))) l)
ends_of_thinned chains k kept l p inside keep =
    let new : Chain = record (chain_at chains k) { rest = vertices_at (chain_at chains k) (drop 1 kept) } in
    let at_k : chain_at (set chains k new) k ≡ new = get_or-set_same chains k new no_chain inside in
    elim (cases_lt l k) [
      | inl before ↦
          let other : l ≢ k = omega arith in
          subst (λ c. EndsAt p (chain_at chains l) ↔ EndsAt p c) (sym (get_or-set_other chains k l new no_chain other)) (λ e. e, λ e. e)
      | inr not_before ↦ elim (cases_lt k l) [
        | inl behind ↦
            let other : l ≢ k = omega arith in
            subst (λ c. EndsAt p (chain_at chains l) ↔ EndsAt p c) (sym (get_or-set_other chains k l new no_chain other)) (λ e. e, λ e. e)
        | inr not_behind ↦
            let same : k ≡ l = omega arith in
            subst (λ j. EndsAt p (chain_at chains j) ↔ EndsAt p (chain_at (set chains k new) j)) same
            (subst (λ c. EndsAt p (chain_at chains k) ↔ EndsAt p c) (sym at_k)
            (same_ends (chain_at chains k) new p refl (end_kept (chain_at chains k) kept keep)))
      ]
    ]

pub ends_stay : (chains : List Chain) (k : ℕ) (kept : List ℕ) (table : EndLists) → k < length chains → AreKeptIn (chain_at chains k) kept
    → IsEndTable chains table → IsEndTable (thinned chains k (vertices_at (chain_at chains k) (drop 1 kept))) table
ends_stay chains k kept table inside keep is p =
    let new : Chain = record (chain_at chains k) { rest = vertices_at (chain_at chains k) (drop 1 kept) } in
    let count = length-set chains k new in
    record {
      rising = (is p).rising;
      all = λ l.
          let ends = ends_of_thinned chains k kept l p inside keep in (
            λ has. let known = ((is p).all l).0 has in (let below = known.0 in omega arith, ends.0 known.1),
            λ known. ((is p).all l).1 (let below = known.0 in omega arith, ends.1 known.1),
          );
    }

-- ---- the ends among the places of a chain

pub last_of_places : (c : Chain) (vs : List Place) (d : Place) → vs ≡ chain_places c
    → get_or vs (length vs - 1) d ≡ (end_of c.first c.rest).place
last_of_places c vs d is =
    let rest = length-map c.rest (λ v. v.place) in
    let count : length vs - 1 ≡ length c.rest = ap (λ ps. length ps - 1) is ∙ omega arith in
    ap (λ n. get_or vs n d) count ∙ ap (λ ps. get_or ps (length c.rest) d) is ∙ last_place c.first c.rest d

pub ends_differ : (c : Chain) (vs : List Place) → vs ≡ chain_places c → 2 ≤ length vs → AllPairs (λ p q. p ≢ q) vs
    → c.first.place ≢ (end_of c.first c.rest).place
ends_differ c vs is several distinct same =
    distinct 0 (length vs - 1) c.first.place (omega arith) (omega arith)
    (ap (λ ps. get_or ps 0 c.first.place) is ∙ same ∙ sym (last_of_places c vs c.first.place is))
