-- Marks that are set, as a list of their places.
use Rattle.std.proofs.Common.{◌≡◌, ◌≢◌, ◌∙◌, ℕ, zero, suc, ◌+◌, ◌<◌, ◌≤◌, ◌==◌, Bool, true, false, cond, List, [], ◌∷◌, All, Contains}
use Rattle.std.proofs.Common.{filter, length, get_or, set, refl, sym, ap, subst, arith, inl, inr}
use Rattle.std.specs.Prelude.{not, ◌&&◌}
use Rattle.std.specs.List.{range_with_len}
use Rattle.std.proofs.lemmas.Bool.{cases_eq, cases_lt, eq-eqb, ne_eqb, true≢false}
use Rattle.std.proofs.lemmas.List.{get_or_past, get_or-set_other, get_or-set_same, length-set}
use Rattle.std.proofs.lemmas.List.Elements.{All-cons, All-nil, All-weaker, filter_agree}
use Rattle.std.proofs.lemmas.List.FromFn.{get_or-range_with_len, length-range_with_len}
use Rattle.std.proofs.lemmas.List.Kept.{AllPairs-cons, AllPairs-filter}
use Rattle.sweep_index.proofs.Distinct.{pairs_nil}
use Rattle.sweep_index.proofs.Holding.{filter_holds}
use Rattle.dissolve.specs.Border.{without}
use Rattle.dissolve.specs.Unused.{marked}
use Rattle.dissolve.proofs.Booleans.{and-true, and-false}
use Rattle.dissolve.proofs.Taking.{AreOnce, filter_from}

pub cleared-at : (marks : List Bool) (arc k : ℕ) → get_or (set marks arc false) k false ≡ (get_or marks k false && not (k == arc))
cleared-at marks arc k = elim (cases_eq k arc) [
  | inl same ↦
      let gone : get_or (set marks arc false) k false ≡ false = elim (cases_lt k (length marks)) [
        | inl within ↦ subst (λ i. get_or (set marks i false) k false ≡ false) same (get_or-set_same marks k false false within)
        | inr past ↦ get_or_past (set marks arc false) k false (omega (arith, length-set marks arc false, past))
      ] in
      gone ∙ sym (ap (λ b. get_or marks k false && not b) (eq-eqb k arc same) ∙ and-false (get_or marks k false))
  | inr apart ↦
      get_or-set_other marks arc k false false apart
      ∙ sym (ap (λ b. get_or marks k false && not b) (ne_eqb k arc apart) ∙ and-true (get_or marks k false))
]

pub still-marked : (marks : List Bool) (arc k : ℕ) → get_or (set marks arc false) k false ≡ true → (get_or marks k false ≡ true) × (k ≢ arc)
still-marked marks arc k set_there = elim (cases_eq k arc) [
  | inl same ↦ absurd (true≢false (sym set_there ∙ cleared-at marks arc k ∙ ap (λ b. get_or marks k false && not b) (eq-eqb k arc same)
      ∙ and-false (get_or marks k false)))
  | inr apart ↦ (sym (get_or-set_other marks arc k false false apart) ∙ set_there, apart)
]

filter-both : (p q : ℕ → Bool) (xs : List ℕ) → filter (λ x. q x && p x) xs ≡ filter p (filter q xs)
filter-both p q [] = refl
filter-both p q (x ∷ xs) = elim (q x) as (λ b. cond (b && p x) (x ∷ filter (λ y. q y && p y) xs) (filter (λ y. q y && p y) xs)
    ≡ filter p (cond b (x ∷ filter q xs) (filter q xs))) [
      | true ↦ ap (λ ys. cond (p x) (x ∷ ys) ys) (filter-both p q xs)
      | false ↦ filter-both p q xs
    ]

pub marked-cleared : (marks : List Bool) (arc : ℕ) → marked (set marks arc false) ≡ without arc (marked marks)
marked-cleared marks arc =
    ap (λ n. filter (λ k. get_or (set marks arc false) k false) (range_with_len 0 n)) (length-set marks arc false)
    ∙ filter_agree (λ k. get_or (set marks arc false) k false) (λ k. get_or marks k false && not (k == arc)) (cleared-at marks arc)
    (range_with_len 0 (length marks))
    ∙ filter-both (λ k. not (k == arc)) (λ k. get_or marks k false) (range_with_len 0 (length marks))

-- ---- membership

in-range : (n k : ℕ) → k < n → Contains (range_with_len 0 n) k
in-range n k within =
    let long = length-range_with_len 0 n in
    let at : 0 + k ≡ k = omega arith in
    (k, omega (arith, long, within), get_or-range_with_len 0 n k k within ∙ at)

marked-within : (marks : List Bool) (k : ℕ) → get_or marks k false ≡ true → k < length marks
marked-within marks k is = elim (cases_lt k (length marks)) [
  | inl within ↦ within
  | inr past ↦ absurd (true≢false (sym is ∙ get_or_past marks k false past))
]

pub is-marked : (marks : List Bool) (k : ℕ) → get_or marks k false ≡ true → Contains (marked marks) k
is-marked marks k is = filter_holds (λ j. get_or marks j false) (range_with_len 0 (length marks)) k
    (in-range (length marks) k (marked-within marks k is)) is

pub marked-is : (marks : List Bool) (k : ℕ) → Contains (marked marks) k → get_or marks k false ≡ true
marked-is marks k held = (filter_from (λ j. get_or marks j false) (range_with_len 0 (length marks)) k held).1

pub marked-below : (marks : List Bool) (k : ℕ) → Contains (marked marks) k → k < length marks
marked-below marks k held = marked-within marks k (marked-is marks k held)

-- ---- each once

range-from : (a n : ℕ) → All (λ k. a ≤ k) (range_with_len a n)
range-from a zero = All-nil (λ k. a ≤ k)
range-from a (suc n) = All-cons (λ k. a ≤ k) a (range_with_len (a + 1) n) (omega arith)
    (All-weaker (λ k. a + 1 ≤ k) (λ k. a ≤ k) (λ k more. omega (arith, more)) (range_with_len (a + 1) n) (range-from (a + 1) n))

pub range-once : (a n : ℕ) → AreOnce (range_with_len a n)
range-once a zero = pairs_nil (λ j k. j ≢ k)
range-once a (suc n) = AllPairs-cons (λ j k. j ≢ k) a (range_with_len (a + 1) n)
    (All-weaker (λ k. a + 1 ≤ k) (λ k. a ≢ k) (λ k more same. omega (arith, more, same)) (range_with_len (a + 1) n) (range-from (a + 1) n))
    (range-once (a + 1) n)

pub filter-once : (p : ℕ → Bool) (n : ℕ) → AreOnce (filter p (range_with_len 0 n))
filter-once p n = AllPairs-filter (λ j k. j ≢ k) p (range_with_len 0 n) (range-once 0 n)

pub marked-once : (marks : List Bool) → AreOnce (marked marks)
marked-once marks = filter-once (λ k. get_or marks k false) (length marks)
