-- Parities of counts over lists.
use Rattle.std.proofs.Common.{◌≡◌, ◌∙◌, ℕ, suc, ◌+◌, ◌<◌, Bool, true, false, cond, List, [], ◌∷◌, ◌++◌, All, length, get_or, drop, map}
use Rattle.std.proofs.Common.{refl, sym, ap, arith, add-one, drop-cons}
use Rattle.std.specs.Prelude.{◌&&◌, count_by, filter}
use Rattle.std.specs.List.Sorted.{IsPermutation}
use Rattle.std.proofs.lemmas.List.Elements.{All-head, All-tail}
use Rattle.std.proofs.lemmas.List.Sorted.{sum_by-IsPermutation}
use Rattle.std.proofs.lemmas.List.Sums.{sum_by-cons}
use Rattle.grid_exact.specs.Walks.{is_odd, differ}
use Rattle.face_parity.specs.Parities.{pass_oddly}
use Rattle.grid_exact.proofs.Walks.{differ_assoc, regrouped}

pub pass-append : {X : Type 0} (test : X → Bool) (xs ys : List X)
    → pass_oddly test (xs ++ ys) ≡ differ (pass_oddly test xs) (pass_oddly test ys)
pass-append test [] ys = refl
pass-append test (x ∷ xs) ys = ap (differ (test x)) (pass-append test xs ys)
    ∙ differ_assoc (test x) (pass_oddly test xs) (pass_oddly test ys)

pub pass-none : {X : Type 0} (test : X → Bool) (xs : List X) → All (λ x. test x ≡ false) xs → pass_oddly test xs ≡ false
pass-none test [] all = refl
pass-none test (x ∷ xs) all = ap (λ b. differ b (pass_oddly test xs)) (All-head (λ y. test y ≡ false) x xs all)
    ∙ pass-none test xs (All-tail (λ y. test y ≡ false) x xs all)

pub pass-agree : {X : Type 0} (p q : X → Bool) (xs : List X) → All (λ x. p x ≡ q x) xs → pass_oddly p xs ≡ pass_oddly q xs
pass-agree p q [] all = refl
pass-agree p q (x ∷ xs) all = ap (λ b. differ b (pass_oddly p xs)) (All-head (λ y. p y ≡ q y) x xs all)
    ∙ ap (differ (q x)) (pass-agree p q xs (All-tail (λ y. p y ≡ q y) x xs all))

pub pass-map : {X Y : Type 0} (test : Y → Bool) (f : X → Y) (xs : List X) → pass_oddly test (map f xs) ≡ pass_oddly (λ x. test (f x)) xs
pass-map test f [] = refl
pass-map test f (x ∷ xs) = ap (differ (test (f x))) (pass-map test f xs)

-- of what passes one test what passes another
pub pass-filter : {X : Type 0} (p test : X → Bool) (xs : List X) → pass_oddly test (filter p xs) ≡ pass_oddly (λ x. p x && test x) xs
pass-filter p test [] = refl
pass-filter p test (x ∷ xs) =
    elim (p x) as (λ b. pass_oddly test (cond b (x ∷ filter p xs) (filter p xs))
    ≡ differ (b && test x) (pass_oddly (λ y. p y && test y) xs)) [
      | true ↦ ap (differ (test x)) (pass-filter p test xs)
      | false ↦ pass-filter p test xs
    ]

-- a test that fails at once leaves nothing
pub pass-and : {X : Type 0} (b : Bool) (test : X → Bool) (xs : List X) → pass_oddly (λ x. b && test x) xs ≡ (b && pass_oddly test xs)
pass-and true test xs = refl
pass-and false test xs = pass-none (λ x. false && test x) xs (λ k d within. refl)

-- two tests at once, counted one after the other
pass-both : {X : Type 0} (p q : X → Bool) (xs : List X) → pass_oddly (λ x. differ (p x) (q x)) xs
    ≡ differ (pass_oddly p xs) (pass_oddly q xs)
pass-both p q [] = refl
pass-both p q (x ∷ xs) = ap (differ (differ (p x) (q x))) (pass-both p q xs) ∙ regrouped (p x) (q x) (pass_oddly p xs) (pass_oddly q xs)

-- pairs that pass, counted by their first parts or by their second ones
pub pass-swap : {X Y : Type 0} (test : X → Y → Bool) (xs : List X) (ys : List Y)
    → pass_oddly (λ x. pass_oddly (test x) ys) xs ≡ pass_oddly (λ y. pass_oddly (λ x. test x y) xs) ys
pass-swap test [] ys = sym (pass-none (λ y. pass_oddly (λ x. test x y) []) ys (λ k d within. refl))
pass-swap test (x ∷ xs) ys = ap (differ (pass_oddly (test x) ys)) (pass-swap test xs ys)
    ∙ sym (pass-both (test x) (λ y. pass_oddly (λ z. test z y) xs) ys)

odd-one : (b : Bool) (n : ℕ) → is_odd (cond b 1 0 + n) ≡ differ b (is_odd n)
odd-one true n = let e : 1 + n ≡ suc n = omega arith in ap is_odd e
odd-one false n = let e : 0 + n ≡ n = omega arith in ap is_odd e

pass-count : {X : Type 0} (test : X → Bool) (xs : List X) → is_odd (count_by test xs) ≡ pass_oddly test xs
pass-count test [] = refl
pass-count test (x ∷ xs) = ap is_odd (sum_by-cons (λ y. cond (test y) 1 0) x xs) ∙ odd-one (test x) (count_by test xs)
    ∙ ap (differ (test x)) (pass-count test xs)

-- the order does not matter
pub pass-permutation : {X : Type 0} (test : X → Bool) (xs ys : List X) → IsPermutation xs ys → pass_oddly test ys ≡ pass_oddly test xs
pass-permutation test xs ys moves = sym (pass-count test ys) ∙ ap is_odd (sum_by-IsPermutation (λ x. cond (test x) 1 0) xs ys moves)
    ∙ pass-count test xs

-- the parity so far and that of what is left make up the whole
pub pass-at : {X : Type 0} (test : X → Bool) (odd : Bool) (xs : List X) (i : ℕ) (d : X) → i < length xs
    → differ (differ odd (test (get_or xs i d))) (pass_oddly test (drop (i + 1) xs)) ≡ differ odd (pass_oddly test (drop i xs))
pass-at test odd xs i d within = rw (add-one, drop-cons xs i d within)
    (sym (differ_assoc odd (test (get_or xs i d)) (pass_oddly test (drop (suc i) xs))))
