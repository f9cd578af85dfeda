-- A list whose elements at rising places are moved to its front, one after the other.
use Rattle.std.proofs.Common.{◌≡◌, ◌≢◌, ◌∙◌, ℕ, ◌+◌, ◌<◌, ◌≤◌, List, map, length, get_or, set, take, inl, inr, sym, arith, get_or-set_other}
use Rattle.std.proofs.Common.{get_or-set_same}
use Rattle.std.proofs.lemmas.Bool.{cases_lt}
use Rattle.std.proofs.lemmas.List.{get_or_read, ext_get_or, get_or-map, get_or-take, length-take-le, length-map}

pub front_more : {X : Type 0} (before now : List X) (kept : List ℕ) (place : ℕ) (v : X) → place < length now
    → get_or kept place 0 < length now → place ≤ get_or kept place 0 → v ≡ get_or now (get_or kept place 0) v
    → ((j : ℕ) (d : X) → j < place → get_or now j d ≡ get_or before (get_or kept j 0) d)
    → ((j : ℕ) (d : X) → place ≤ j → get_or now j d ≡ get_or before j d) → (j : ℕ) (d : X) → j < place + 1
    → get_or (set now place v) j d ≡ get_or before (get_or kept j 0) d
front_more before now kept place v here within later is front behind j d below =
    elim (cases_lt j place) [
      | inl lt ↦ let other : j ≢ place = omega arith in rw get_or-set_other (front j d lt)
      | inr not_lt ↦
          let same : j ≡ place = omega arith in
          rw (same, get_or-set_same) (get_or_read now (get_or kept place 0) v within is d ∙ behind (get_or kept place 0) d later)
    ]

pub behind_more : {X : Type 0} (before now : List X) (place : ℕ) (v : X)
    → ((j : ℕ) (d : X) → place ≤ j → get_or now j d ≡ get_or before j d) → (j : ℕ) (d : X) → place + 1 ≤ j
    → get_or (set now place v) j d ≡ get_or before j d
behind_more before now place v behind j d past = let other : j ≢ place = omega arith in rw get_or-set_other (behind j d (omega arith))

pub all_kept : {X : Type 0} (before now : List X) (kept : List ℕ) (d : X) → length kept ≤ length now
    → ((j : ℕ) (e : X) → j < length kept → get_or now j e ≡ get_or before (get_or kept j 0) e)
    → take (length kept) now ≡ map (λ at. get_or before at d) kept
all_kept before now kept d within front =
    let count : length (take (length kept) now) ≡ length kept = length-take-le (length kept) now within in
    ext_get_or d (take (length kept) now) (map (λ at. get_or before at d) kept) (count ∙ sym (length-map kept (λ at. get_or before at d)))
    (λ j below.
    let inside : j < length kept = omega arith in
    get_or-take (length kept) now j d inside ∙ front j d inside ∙ sym (get_or-map (λ at. get_or before at d) kept j 0 d inside))
