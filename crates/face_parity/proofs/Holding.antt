-- The polygons in which a point lies, in a rising list of some of them.
use Rattle.std.proofs.Common.{◌≡◌, ◌∙◌, ℕ, zero, suc, ◌+◌, ◌<◌, ◌≤◌, Bool, true, false, cond, List, [], ◌∷◌, ◌++◌, All, AllPairs, Contains}
use Rattle.std.proofs.Common.{append_assoc, refl, sym, ap, arith, inl, inr}
use Rattle.std.specs.Prelude.{filter, codes}
use Rattle.std.specs.List.{range_with_len}
use Rattle.std.proofs.lemmas.Bool.{cases_eq, cond-false, false_from_ne_true}
use Rattle.std.proofs.lemmas.List.Elements.{All-cons, All-contains, All-head, All-tail, All-weaker}
use Rattle.sweep_index.proofs.Distinct.{pairs_head, pairs_tail}
use Rattle.face_parity.proofs.Same.{in-cases, in-none}

module _ (p q : ℕ → Bool) where
  -- the test fails at each number of the range
  none : (k n : ℕ) → ((j : ℕ) → k ≤ j → j < k + n → q j ≡ false) → filter q (range_with_len k n) ≡ []
  none k zero fails = refl
  none k (suc n) fails = cond-false (q k) (k ∷ filter q (range_with_len (k + 1) n)) (filter q (range_with_len (k + 1) n))
      (fails k (omega arith) (omega arith)) ∙ none (k + 1) n (λ j low high. fails j (omega (arith, low)) (omega (arith, high)))

  same-cond : (b c : Bool) (x : ℕ) (xs ys : List ℕ) → b ≡ c → xs ≡ ys → (let zs : List ℕ = cond b (x ∷ xs) xs in zs) ≡ cond c (x ∷ ys) ys
  same-cond b c x xs ys e f = rw (e, f) refl

  -- a rising list of numbers of the range that has all that pass
  pub filter-range : (k n : ℕ) (xs : List ℕ) → AllPairs (λ x y. x < y) xs → All (λ x. k ≤ x) xs → All (λ x. x < k + n) xs
      → ((j : ℕ) → k ≤ j → j < k + n → q j ≡ true → Contains xs j) → ((j : ℕ) → k ≤ j → j < k + n → p j ≡ q j)
      → filter p xs ≡ filter q (range_with_len k n)
  filter-range k n [] rising low high has agree =
      sym (none k n (λ j least most. false_from_ne_true (q j) (λ passes. in-none j (has j least most passes))))
  filter-range k zero (x ∷ xs) rising low high has agree =
      let least = All-head (λ y. k ≤ y) x xs low in
      let most = All-head (λ y. y < k + 0) x xs high in
      absurd (omega (arith, least, most))
  filter-range k (suc n) (x ∷ xs) rising low high has agree = elim (cases_eq x k) [
    | inl here ↦
        let above = pairs_head (λ y z. y < z) x xs rising in
        let rest = filter-range (k + 1) n xs (pairs_tail (λ y z. y < z) x xs rising)
        (All-weaker (λ y. x < y) (λ y. k + 1 ≤ y) (λ y more. omega (arith, more, here)) xs above)
        (All-weaker (λ y. y < k + suc n) (λ y. y < k + 1 + n) (λ y most. omega (arith, most)) xs (All-tail (λ y. y < k + suc n) x xs high))
        (λ j least most passes. elim (in-cases x j xs (has j (omega (arith, least)) (omega (arith, most)) passes)) [
          | inl is ↦ absurd (omega (arith, is, here, least))
          | inr later ↦ later
        ])
        (λ j least most. agree j (omega (arith, least)) (omega (arith, most))) in
        let head : p x ≡ q k = ap p here ∙ agree k (omega arith) (omega arith) in
        same-cond (p x) (q k) x (filter p xs) (filter q (range_with_len (k + 1) n)) head rest
        ∙ ap (λ y. cond (q k) (y ∷ filter q (range_with_len (k + 1) n)) (filter q (range_with_len (k + 1) n))) here
    | inr apart ↦
        let least = All-head (λ y. k ≤ y) x xs low in
        let fails : q k ≡ false = false_from_ne_true (q k) (λ passes. elim (in-cases x k xs (has k (omega arith) (omega arith) passes)) [
          | inl is ↦ apart is
          | inr later ↦ let more = All-contains (λ y. x < y) xs k (pairs_head (λ y z. y < z) x xs rising) later in
              omega (arith, more, least)
        ]) in
        let rest = filter-range (k + 1) n (x ∷ xs) rising
        (All-cons (λ y. k + 1 ≤ y) x xs (omega (arith, least, apart))
        (All-weaker (λ y. x < y) (λ y. k + 1 ≤ y) (λ y more. omega (arith, more, least)) xs (pairs_head (λ y z. y < z) x xs rising)))
        (All-weaker (λ y. y < k + suc n) (λ y. y < k + 1 + n) (λ y most. omega (arith, most)) (x ∷ xs) high)
        (λ j more most passes. has j (omega (arith, more)) (omega (arith, most)) passes)
        (λ j more most. agree j (omega (arith, more)) (omega (arith, most))) in
        rest ∙ sym (cond-false (q k) (k ∷ filter q (range_with_len (k + 1) n)) (filter q (range_with_len (k + 1) n)) fails)
  ]

pub goes-on : (before digits after left now : List ℕ) → now ≡ before ++ codes " " ++ digits → left ≡ codes " " ++ digits ++ after
    → now ++ after ≡ before ++ left
goes-on before digits after left now e f = rw (e, f) (simp append_assoc refl)
