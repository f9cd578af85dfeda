-- Polygons that are turned one after another.
use Rattle.std.proofs.Common.{◌≡◌, ◌≢◌, ◌∙◌, ℕ, ◌<◌, ◌≤◌, Bool, true, false, List, [], ◌∷◌, ◌++◌, All, AllPairs, Contains, length, get_or}
use Rattle.std.proofs.Common.{set, sym, ap, subst, arith, inl, inr, eqb, get_or-set_other, get_or-set_same}
use Rattle.std.specs.Prelude.{◌⊎◌}
use Rattle.std.specs.List.{list_any}
use Rattle.std.specs.List.Sorted.{IsNonDecreasing}
use Rattle.std.proofs.lemmas.Bool.{cases_eq, cases_lt, eqb-true, ne_eqb, or_cases, true≢false}
use Rattle.std.proofs.lemmas.List.Elements.{All-cons, All-head, All-nil, All-push, All-tail, All-weaker, Contains-append_left}
use Rattle.std.proofs.lemmas.List.Elements.{Contains-push}
use Rattle.std.proofs.lemmas.Map.Keys.{IsDistinct-from_apart}
use Rattle.std.proofs.lemmas.Map.Steps.{length-le_from_distinct_below}
use Rattle.std.proofs.Math.ListN.{get_or-eq_default}
use Rattle.sweep_index.proofs.Distinct.{pairs_append, pairs_nil}
use Rattle.std.proofs.lemmas.List.Kept.{AllPairs-cons}

any-below : (n q : ℕ) (xs : List ℕ) → All (λ x. x < n) xs → list_any (eqb q) xs ≡ true → q < n
any-below n q [] all any = absurd (true≢false (sym any))
any-below n q (x ∷ xs) all any = elim (or_cases (eqb q x) (list_any (eqb q) xs) any) [
  | inl here ↦ let same = eqb-true q x here in let low = All-head (λ y. y < n) x xs all in omega (arith, same, low)
  | inr later ↦ any-below n q xs (All-tail (λ y. y < n) x xs all) later
]

-- different numbers below n are at most n
pub few-below : (n : ℕ) (xs : List ℕ) → AllPairs (λ j k. j ≢ k) xs → All (λ k. k < n) xs → length xs ≤ n
few-below n xs once below = length-le_from_distinct_below xs n (IsDistinct-from_apart eqb xs (λ i j d lt within.
    ne_eqb (get_or xs i d) (get_or xs j d) (once i j d lt within))) (λ q any. any-below n q xs below any)

-- a mark is within the list
pub mark-within : (marks : List Bool) (k : ℕ) → get_or marks k false ≡ true → k < length marks
mark-within marks k marked = elim (cases_lt k (length marks)) [
  | inl within ↦ within
  | inr past ↦ absurd (true≢false (sym marked ∙ get_or-eq_default marks false past))
]

pub marks-within : (marks : List Bool) (ks : List ℕ) → All (λ k. get_or marks k false ≡ true) ks → All (λ k. k < length marks) ks
marks-within marks ks all = All-weaker (λ k. get_or marks k false ≡ true) (λ k. k < length marks) (λ k marked. mark-within marks k marked)
    ks all

-- what is marked stays so where one more is marked
pub marked-still : (marks : List Bool) (at k : ℕ) → at < length marks → get_or marks k false ≡ true
    → get_or (set marks at true) k false ≡ true
marked-still marks at k within marked = elim (cases_eq k at) [
  | inl same ↦ subst (λ j. get_or (set marks at true) j false ≡ true) (sym same) (get_or-set_same marks at true false within)
  | inr apart ↦ get_or-set_other marks at k true false apart ∙ marked
]

pub marked-cases : (marks : List Bool) (at k : ℕ) → get_or (set marks at true) k false ≡ true → (k ≡ at) ⊎ (get_or marks k false ≡ true)
marked-cases marks at k marked = elim (cases_eq k at) [
  | inl same ↦ inl same
  | inr apart ↦ inr (sym (get_or-set_other marks at k true false apart) ∙ marked)
]

-- one more different number
pub once-push : (marks : List Bool) (ks : List ℕ) (k : ℕ) → AllPairs (λ i j. i ≢ j) ks → All (λ j. get_or marks j false ≡ true) ks
    → get_or marks k false ≡ false → AllPairs (λ i j. i ≢ j) (ks ++ k ∷ [])
once-push marks ks k once marked new =
    pairs_append (λ i j. i ≢ j) ks (k ∷ []) once (AllPairs-cons (λ i j. i ≢ j) k [] (All-nil (λ j. k ≢ j)) (pairs_nil (λ i j. i ≢ j)))
    (All-weaker (λ j. get_or marks j false ≡ true) (λ j. All (λ i. j ≢ i) (k ∷ [])) (λ j is.
    All-cons (λ i. j ≢ i) k [] (λ same. true≢false (sym is ∙ ap (λ i. get_or marks i false) same ∙ new)) (All-nil (λ i. j ≢ i))) ks
    marked)

-- a number that is not marked leaves room for itself
pub room-for : (marks : List Bool) (ks : List ℕ) (k : ℕ) → AllPairs (λ i j. i ≢ j) ks → All (λ j. get_or marks j false ≡ true) ks
    → get_or marks k false ≡ false → k < length marks → length (ks ++ k ∷ []) ≤ length marks
room-for marks ks k once marked new within = few-below (length marks) (ks ++ k ∷ []) (once-push marks ks k once marked new)
    (All-push (λ j. j < length marks) ks k (marks-within marks ks marked) within)

pub listed-push : (marks : List Bool) (ks : List ℕ) (at k : ℕ) → ((j : ℕ) → get_or marks j false ≡ true → Contains ks j)
    → get_or (set marks at true) k false ≡ true → Contains (ks ++ at ∷ []) k
listed-push marks ks at k listed marked = elim (marked-cases marks at k marked) [
  | inl same ↦ subst (Contains (ks ++ at ∷ [])) (sym same) (Contains-push ks at)
  | inr before ↦ Contains-append_left ks (at ∷ []) k (listed k before)
]

pub marked-push : (marks : List Bool) (ks : List ℕ) (at : ℕ) → at < length marks → All (λ k. get_or marks k false ≡ true) ks
    → All (λ k. get_or (set marks at true) k false ≡ true) (ks ++ at ∷ [])
marked-push marks ks at within marked = All-push (λ k. get_or (set marks at true) k false ≡ true) ks at
    (All-weaker (λ k. get_or marks k false ≡ true) (λ k. get_or (set marks at true) k false ≡ true) (λ k is.
    marked-still marks at k within is) ks marked) (get_or-set_same marks at true false within)

-- different numbers in order rise
pub rising-from : (ks : List ℕ) → IsNonDecreasing ks → AllPairs (λ j k. j ≢ k) ks → AllPairs (λ j k. j < k) ks
rising-from ks sorted once i j d lt within = let apart = once i j d lt within in let rises = sorted i j d (omega (arith, lt)) within in
    omega (arith, apart, rises)
