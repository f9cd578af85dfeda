-- Lists that hold the same of what passes a test.
use Rattle.std.proofs.Common.{◌≡◌, ◌≢◌, ◌∙◌, zero, suc, Bool, true, List, [], ◌∷◌, All, AllPairs, Contains, get_or, refl, sym, ap, arith}
use Rattle.std.proofs.Common.{inl, inr}
use Rattle.std.specs.Prelude.{◌⊎◌, remove}
use Rattle.std.proofs.lemmas.Bool.{false_from_ne_true, true≢false, cases_Bool}
use Rattle.std.proofs.lemmas.List.Elements.{All-contains, Contains-get_or}
use Rattle.std.proofs.lemmas.List.Sorted.{IsPermutation-remove, IsPermutation-sym, Contains-permutation}
use Rattle.grid_exact.specs.Walks.{differ}
use Rattle.face_parity.specs.Parities.{pass_oddly}
use Rattle.sweep_index.proofs.Distinct.{apart_flips, pairs_head, pairs_tail, pairs_permutation}
use Rattle.face_parity.proofs.Sums.{pass-none, pass-permutation}

pub in-later : {X : Type 0} (x z : X) (xs : List X) → Contains xs z → Contains (x ∷ xs) z
in-later x z xs held = (suc held.0, omega (arith, held.1), held.2)

pub in-cases : {X : Type 0} (x z : X) (xs : List X) → Contains (x ∷ xs) z → (x ≡ z) ⊎ Contains xs z
in-cases x z xs (zero, within, same) = inl same
in-cases x z xs (suc k, within, same) = inr (k, omega (arith, within), same)

pub in-none : {X : Type 0} (z : X) → Contains [] z → ⊥
in-none z held = omega (arith, held.1)

-- z is in the tail, since it differs from the head
in-tail : {X : Type 0} (x z : X) (xs : List X) → (x ≡ z → ⊥) → Contains (x ∷ xs) z → Contains xs z
in-tail x z xs apart held = elim (in-cases x z xs held) [ inl same ↦ absurd (apart same) | inr later ↦ later ]

-- what differs from all of the list is not in it
pub not-in : {X : Type 0} (x z : X) (xs : List X) → All (λ y. x ≢ y) xs → Contains xs z → x ≡ z → ⊥
not-in x z xs apart held = All-contains (λ y. x ≢ y) xs z apart held

-- of two lists in which each thing is once, and which hold the same of what passes, the same parity passes
pub pass-same : {X : Type 0} (test : X → Bool) (xs ys : List X) → AllPairs (λ y z. y ≢ z) xs → AllPairs (λ y z. y ≢ z) ys
    → ((z : X) → test z ≡ true → Contains xs z → Contains ys z) → ((z : X) → test z ≡ true → Contains ys z → Contains xs z)
    → pass_oddly test xs ≡ pass_oddly test ys
pass-same {X = X} test [] ys first second there back =
    sym (pass-none test ys (λ k d within. false_from_ne_true (test (get_or ys k d)) (λ passes.
    in-none (get_or ys k d) (back (get_or ys k d) passes (Contains-get_or ys k d within)))))
pass-same {X = X} test (x ∷ xs) ys first second there back =
    elim (cases_Bool (test x)) as (λ _. pass_oddly test (x ∷ xs) ≡ pass_oddly test ys) [
      | inl passes ↦
          let at = there x passes (0, omega arith, refl) in
          let rest = remove ys at.0 in
          let moves = IsPermutation-remove ys at.0 x at.1 (sym at.2) in
          let apart = pairs_permutation (λ y z. y ≢ z) apart_flips ys (x ∷ rest) moves second in
          let head = pairs_head (λ y z. y ≢ z) x xs first in
          let other = pairs_head (λ y z. y ≢ z) x rest apart in
          let later = pass-same test xs rest (pairs_tail (λ y z. y ≢ z) x xs first) (pairs_tail (λ y z. y ≢ z) x rest apart)
          (λ z ok held. in-tail x z rest (not-in x z xs head held)
          (Contains-permutation ys (x ∷ rest) z moves (there z ok (in-later x z xs held))))
          (λ z ok held. in-tail x z xs (not-in x z rest other held)
          (back z ok (Contains-permutation (x ∷ rest) ys z (IsPermutation-sym ys (x ∷ rest) moves) (in-later x z rest held)))) in
          ap (differ (test x)) later ∙ pass-permutation test ys (x ∷ rest) moves
      | inr fails ↦
          let differs : (z : X) → test z ≡ true → x ≡ z → ⊥ = λ z ok same. true≢false (sym ok ∙ sym (ap test same) ∙ fails) in
          let later = pass-same test xs ys (pairs_tail (λ y z. y ≢ z) x xs first) second
          (λ z ok held. there z ok (in-later x z xs held))
          (λ z ok held. in-tail x z xs (differs z ok) (back z ok held)) in
          ap (λ b. differ b (pass_oddly test xs)) fails ∙ later
    ]
