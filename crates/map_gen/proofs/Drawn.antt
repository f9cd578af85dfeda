-- The numbers and the shifts, drawn one after another.
use Rattle.std.proofs.Common.{◌≡◌, ℕ, zero, suc, ◌+◌, ◌<◌, List, [], ◌∷◌, ◌++◌, Some, length, inl, inr, length-append, refl, arith, add-one}
use Rattle.std.proofs.lemmas.Bool.{cases_lt}
use Rattle.std.specs.Prelude.{ℤ, slice_get}
use Rattle.map_gen.specs.Shifts.{number, next_number, shift, AreShifts}

pub number-start : (seed : ℕ) → number seed 0 ≡ seed
unfolding number
number-start seed = refl

pub number-more : (seed n : ℕ) → number seed (n + 1) ≡ next_number (number seed n)
unfolding number
number-more seed n = rw add-one refl

pub none-drawn : (seed : ℕ) → AreShifts seed []
none-drawn seed = record { each = λ n h. absurd (omega arith) }

front : (xs ys : List ℤ) (n : ℕ) → n < length xs → slice_get (xs ++ ys) n ≡ slice_get xs n
front [] ys n h = absurd (omega arith)
front (x ∷ xs) ys zero h = refl
front (x ∷ xs) ys (suc n) h = let below : n < length xs = omega arith in front xs ys n below

last : (xs : List ℤ) (z : ℤ) → slice_get (xs ++ z ∷ []) (length xs) ≡ Some z
last [] z = refl
last (x ∷ xs) z = last xs z

pub one-more : (seed : ℕ) (xs : List ℤ) (z : ℤ) → AreShifts seed xs → z ≡ shift seed (length xs + 1) → AreShifts seed (xs ++ z ∷ [])
one-more seed xs z drawn next = record {
  each = λ n h. elim (cases_lt n (length xs)) as (λ _. slice_get (xs ++ z ∷ []) n ≡ Some (shift seed (n + 1))) [
    | inl before ↦ rw (front xs (z ∷ []) n before) (drawn.each n before)
    | inr past ↦
        let size : length (xs ++ z ∷ []) ≡ length xs + 1 = length-append xs (z ∷ []) in
        let at : n ≡ length xs = omega (arith, size) in
        rw (at, last xs z, next) refl
  ];
}
