-- One arc taken out of a list in which each is once.
use Rattle.std.proofs.Common.{◌≡◌, ◌≢◌, ◌∙◌, ℕ, ◌<◌, ◌==◌, Bool, true, false, cond, List, [], ◌∷◌, All, AllPairs, Contains, filter, length}
use Rattle.std.proofs.Common.{refl, sym, ap, subst, arith, inl, inr}
use Rattle.std.specs.Prelude.{not}
use Rattle.std.specs.List.Sorted.{IsPermutation}
use Rattle.std.proofs.lemmas.Bool.{cases_eq, cond-true, cond-false, eq-eqb, ne_eqb, not-true, true≢false}
use Rattle.std.proofs.lemmas.List.Elements.{All-head, All-tail}
use Rattle.std.proofs.lemmas.List.Kept.{AllPairs-filter}
use Rattle.std.proofs.lemmas.List.Sorted.{IsPermutation-cons, IsPermutation-middle, IsPermutation-refl, IsPermutation-trans}
use Rattle.std.proofs.lemmas.List.Sorted.{length_permutation}
use Rattle.grid_exact.specs.Walks.{differ}
use Rattle.sweep_index.proofs.Distinct.{pairs_head, pairs_tail}
use Rattle.face_parity.specs.Parities.{pass_oddly}
use Rattle.face_parity.proofs.Same.{in-cases, in-later, in-none}
use Rattle.face_parity.proofs.Sums.{pass-permutation}
use Rattle.dissolve.specs.Border.{without}
use Rattle.dissolve.proofs.Booleans.{differ-part}

abbrev pub AreOnce : List ℕ → Type 0
AreOnce arcs = AllPairs (λ j k. j ≢ k) arcs

pub once-without : (k : ℕ) (xs : List ℕ) → AreOnce xs → AreOnce (without k xs)
once-without k xs once = AllPairs-filter (λ i j. i ≢ j) (λ i. not (i == k)) xs once

-- a list without an arc that it does not have
without-absent : (k : ℕ) (xs : List ℕ) → All (λ j. k ≢ j) xs → without k xs ≡ xs
without-absent k [] apart = refl
without-absent k (x ∷ xs) apart =
    let other : (x == k) ≡ false = ne_eqb x k (λ same. All-head (λ j. k ≢ j) x xs apart (sym same)) in
    cond-true (not (x == k)) (x ∷ without k xs) (without k xs) (ap not other)
    ∙ ap (λ ys. x ∷ ys) (without-absent k xs (All-tail (λ j. k ≢ j) x xs apart))

pub taken-out : (k : ℕ) (xs : List ℕ) → AreOnce xs → Contains xs k → IsPermutation xs (k ∷ without k xs)
taken-out k [] once held = absurd (in-none k held)
taken-out k (x ∷ xs) once held = elim (cases_eq x k) [
  | inl same ↦
      let gone : without k (x ∷ xs) ≡ without k xs = cond-false (not (x == k)) (x ∷ without k xs) (without k xs) (ap not (eq-eqb x k same))
      in
      let rest : without k xs ≡ xs = without-absent k xs (subst (λ j. All (λ i. j ≢ i) xs) same (pairs_head (λ i j. i ≢ j) x xs once)) in
      let whole : x ∷ xs ≡ k ∷ without k (x ∷ xs) = ap (λ j. j ∷ xs) same ∙ ap (λ ys. k ∷ ys) (sym (gone ∙ rest)) in
      subst (IsPermutation (x ∷ xs)) whole (IsPermutation-refl (x ∷ xs))
  | inr apart ↦
      let stays : without k (x ∷ xs) ≡ x ∷ without k xs = cond-true (not (x == k)) (x ∷ without k xs) (without k xs)
      (ap not (ne_eqb x k apart)) in
      let later : Contains xs k = elim (in-cases x k xs held) [ inl same ↦ absurd (apart same) | inr h ↦ h ] in
      let rest = IsPermutation-cons x xs (k ∷ without k xs) (taken-out k xs (pairs_tail (λ i j. i ≢ j) x xs once) later) in
      let swapped : IsPermutation (x ∷ k ∷ without k xs) (k ∷ x ∷ without k xs) = IsPermutation-middle (x ∷ []) k (without k xs) in
      subst (λ ys. IsPermutation (x ∷ xs) (k ∷ ys)) (sym stays)
      (IsPermutation-trans (x ∷ xs) (x ∷ k ∷ without k xs) (k ∷ x ∷ without k xs) rest swapped)
]

-- the parity of the others
pub pass-without : (f : ℕ → Bool) (k : ℕ) (xs : List ℕ) → AreOnce xs → Contains xs k
    → pass_oddly f (without k xs) ≡ differ (f k) (pass_oddly f xs)
pass-without f k xs once held = differ-part (f k) (pass_oddly f (without k xs)) (pass_oddly f xs)
    (sym (pass-permutation f xs (k ∷ without k xs) (taken-out k xs once held)))

-- ---- what is left

pub filter_from : (p : ℕ → Bool) (xs : List ℕ) (x : ℕ) → Contains (filter p xs) x → Contains xs x × (p x ≡ true)
filter_from p [] x held = absurd (in-none x held)
filter_from p (y ∷ xs) x held = elim (p y) as (λ b. p y ≡ b → Contains (cond b (y ∷ filter p xs) (filter p xs)) x
    → Contains (y ∷ xs) x × (p x ≡ true)) [
      | true ↦ λ passes h. elim (in-cases y x (filter p xs) h) [
        | inl same ↦ ((0, omega arith, same), ap p (sym same) ∙ passes)
        | inr later ↦ let rest = filter_from p xs x later in (in-later y x xs rest.0, rest.1)
      ]
      | false ↦ λ fails h. let rest = filter_from p xs x h in (in-later y x xs rest.0, rest.1)
    ] refl held

pub still-among : (k j : ℕ) (xs : List ℕ) → Contains (without k xs) j → Contains xs j × (j ≢ k)
still-among k j xs held =
    let rest = filter_from (λ i. not (i == k)) xs j held in
    (rest.0, λ same. true≢false (sym (eq-eqb j k same) ∙ not-true (j == k) rest.1))

pub fewer : (k : ℕ) (xs : List ℕ) → AreOnce xs → Contains xs k → length (without k xs) < length xs
fewer k xs once held = let long = length_permutation xs (k ∷ without k xs) (taken-out k xs once held) in omega (arith, long)
