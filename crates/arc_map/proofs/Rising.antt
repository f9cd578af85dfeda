-- What a search finds in a strictly rising list.
use Rattle.std.proofs.Common.{◌≡◌, ◌↔◌, ◌∙◌, ℕ, zero, suc, ◌+◌, ◌-◌, ◌<◌, ◌≤◌, IsTrue, List, length, get_or, Result, Ok, Err, is_ok}
use Rattle.std.proofs.Common.{MatchResult, Contains, refl, inl, inr, arith, [], ◌∷◌, sym, subst}
use Rattle.std.specs.List.Sorted.{IsStrictlyIncreasing}
use Rattle.std.proofs.lemmas.Bool.{cases_lt}
use Rattle.std.proofs.lemmas.List.{get_or_default}
use Rattle.std.proofs.lemmas.List.Kept.{AllPairs-from_increasing}

-- a place is not behind a later one
pub rising_order : (xs : List ℕ) → IsStrictlyIncreasing xs → (i j : ℕ) → i ≤ j → j < length xs → get_or xs i 0 ≤ get_or xs j 0
rising_order xs rising i j le within =
    elim (cases_lt i j) [
      | inl lt ↦ let less = AllPairs-from_increasing xs rising i j 0 lt within in omega arith
      | inr not_lt ↦ let same : i ≡ j = omega arith in rw same (omega arith)
    ]

-- the search found the number exactly where the list has it
pub found-contains : (xs : List ℕ) (x : ℕ) (r : Result ℕ ℕ)
    → MatchResult r (λ i. (i < length xs) × (get_or xs i 0 ≡ x)) (λ i. (i ≤ length xs) × ((k : ℕ) → k < i → get_or xs k 0 < x)
    × ((k : ℕ) → i ≤ k → k < length xs → x < get_or xs k 0)) → IsTrue (is_ok r) ↔ Contains xs x
found-contains xs x (Ok i) found = (λ _. (i, found.0, get_or_default xs i x 0 found.0 ∙ found.1), λ _. refl)
found-contains xs x (Err i) missed = (
  λ impossible. cc,
  λ has.
      let at = get_or_default xs has.0 0 x has.1 ∙ has.2 in
      absurd (elim (cases_lt has.0 i) [
        | inl before ↦ omega (arith, missed.1 has.0 before)
        | inr behind ↦ omega (arith, missed.2 has.0 behind has.1)
      ]),
)

-- the place of a number in a strictly rising list is at most the number
pub place-le-number : (xs : List ℕ) → IsStrictlyIncreasing xs → (k : ℕ) → k < length xs → k ≤ get_or xs k 0
place-le-number xs rising zero within = omega arith
place-le-number xs rising (suc k) within =
    let before = place-le-number xs rising k (omega arith) in
    let step = rising k (omega arith) in
    let next : k + 1 ≡ suc k = omega arith in
    omega (arith, rw next at step)

-- a strictly rising list of numbers below n has at most n of them
pub rising-length : (n : ℕ) (xs : List ℕ) → IsStrictlyIncreasing xs → ((k : ℕ) (d : ℕ) → k < length xs → get_or xs k d < n) → length xs ≤ n
rising-length n xs rising below =
    elim (cases_lt 0 (length xs)) [
      | inl some ↦
          let last = place-le-number xs rising (length xs - 1) (omega arith) in
          omega (arith, last, below (length xs - 1) 0 (omega arith))
      | inr none ↦ omega arith
    ]

-- ---- rising lists with the same elements

pub rising_tail : (x : ℕ) (xs : List ℕ) → IsStrictlyIncreasing (x ∷ xs) → IsStrictlyIncreasing xs
rising_tail x xs rising k below =
    let next : suc k + 1 ≡ suc (k + 1) = omega arith in
    let step = rising (suc k) (omega arith) in
    rw next at step

-- the first is the least
pub first_is_least : (x : ℕ) (xs : List ℕ) (n : ℕ) → IsStrictlyIncreasing (x ∷ xs) → Contains (x ∷ xs) n → x ≤ n
first_is_least x xs n rising has =
    let order = rising_order (x ∷ xs) rising 0 has.0 (omega arith) has.1 in
    let same = get_or_default (x ∷ xs) has.0 0 n has.1 ∙ has.2 in
    omega (arith, order, same)

pub later_is_greater : (x : ℕ) (xs : List ℕ) (n : ℕ) → IsStrictlyIncreasing (x ∷ xs) → Contains xs n → x < n
later_is_greater x xs n rising has =
    let inside = has.1 in
    let order = AllPairs-from_increasing (x ∷ xs) rising 0 (suc has.0) n (omega arith) (omega arith) in
    omega (arith, order, has.2)

-- what stands behind the first of one list stands behind the first of the other
pub behind_first : (x : ℕ) (xs ys : List ℕ) → IsStrictlyIncreasing (x ∷ xs) → ((n : ℕ) → Contains (x ∷ xs) n → Contains (x ∷ ys) n)
    → (n : ℕ) → Contains xs n → Contains ys n
behind_first x xs ys rising says n has =
    let inside = has.1 in
    let there = says n (suc has.0, omega arith, has.2) in
    at_place there.0 there.1 there.2
  where
    at_place : (j : ℕ) → j < length (x ∷ ys) → get_or (x ∷ ys) j n ≡ n → Contains ys n
    at_place zero within e = absurd (omega (arith, later_is_greater x xs n rising has, e))
    at_place (suc j) within e = (j, omega arith, e)

pub rising_is_one : (xs ys : List ℕ) → IsStrictlyIncreasing xs → IsStrictlyIncreasing ys → ((n : ℕ) → Contains xs n → Contains ys n)
    → ((n : ℕ) → Contains ys n → Contains xs n) → xs ≡ ys
rising_is_one [] [] first second there back = refl
rising_is_one [] (y ∷ ys) first second there back = let has = back y (0, omega arith, refl) in absurd (omega (arith, has.1))
rising_is_one (x ∷ xs) [] first second there back = let has = there x (0, omega arith, refl) in absurd (omega (arith, has.1))
rising_is_one (x ∷ xs) (y ∷ ys) first second there back =
    let below = first_is_least x xs y first (back y (0, omega arith, refl)) in
    let above = first_is_least y ys x second (there x (0, omega arith, refl)) in
    let same : x ≡ y = omega (arith, below, above) in
    let there_too = subst (λ (z : ℕ). (n : ℕ) → Contains (x ∷ xs) n → Contains (z ∷ ys) n) (sym same) there in
    let back_too = subst (λ (z : ℕ). (n : ℕ) → Contains (z ∷ ys) n → Contains (x ∷ xs) n) (sym same) back in
    let second_too = subst (λ (z : ℕ). IsStrictlyIncreasing (z ∷ ys)) (sym same) second in
    let rest = rising_is_one xs ys (rising_tail x xs first) (rising_tail y ys second) (behind_first x xs ys first there_too)
    (behind_first x ys xs second_too back_too) in
    cc
