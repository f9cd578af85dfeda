-- A list in order of a number of its elements: those with one number stand together.
use Rattle.std.proofs.Common.{◌≡◌, ◌∙◌, ◌+◌, ◌<◌, ◌≤◌, ◌==◌, nat_lt, ℕ, Bool, true, false, List, [], ◌∷◌, ◌++◌, All, filter, length, get_or}
use Rattle.std.proofs.Common.{take, drop, arith, refl, ap, sym, subst}
use Rattle.std.specs.List.{AllWithin}
use Rattle.std.specs.List.Sorted.{IsNonDecreasingBy, IsPartitionedBy}
use Rattle.std.proofs.lemmas.Bool.{cond-false, cond-true, eq-eqb, eqb-true, false_from_ne_true, ltb-false, ltb-true}
use Rattle.std.proofs.lemmas.List.{append-nil, get_or-drop, get_or-take, length-drop, length-take-le, take-append-drop}
use Rattle.std.proofs.lemmas.List.Elements.{All-head, All-tail, filter-append}

-- ---- a run of elements that pass

filter_none : {X : Type 0} (p : X → Bool) (xs : List X) → All (λ x. p x ≡ false) xs → filter p xs ≡ []
filter_none p [] all = refl
filter_none p (x ∷ xs) all = cond-false (p x) (x ∷ filter p xs) (filter p xs) (All-head (λ y. p y ≡ false) x xs all)
    ∙ filter_none p xs (All-tail (λ y. p y ≡ false) x xs all)

filter_all : {X : Type 0} (p : X → Bool) (xs : List X) → All (λ x. p x ≡ true) xs → filter p xs ≡ xs
filter_all p [] all = refl
filter_all p (x ∷ xs) all = cond-true (p x) (x ∷ filter p xs) (filter p xs) (All-head (λ y. p y ≡ true) x xs all)
    ∙ ap (λ ys. x ∷ ys) (filter_all p xs (All-tail (λ y. p y ≡ true) x xs all))

front_all : {X : Type 0} (P : X → Type 0) (xs : List X) (n : ℕ) → n ≤ length xs → AllWithin P xs 0 n → All P (take n xs)
front_all P xs n within all k d below =
    let long = length-take-le n xs within in
    let inside : k < n = omega (arith, long, below) in
    subst P (sym (get_or-take n xs k d inside)) (all k d (omega arith) inside)

back_all : {X : Type 0} (P : X → Type 0) (xs : List X) (n : ℕ) → n ≤ length xs → AllWithin P xs n (length xs) → All P (drop n xs)
back_all P xs n within all k d below =
    let long = length-drop n xs in
    subst P (sym (get_or-drop n xs k d)) (all (n + k) d (omega arith) (omega (arith, long, below, within)))

-- the first n do not pass, and of the others just the first m
filter_run : {X : Type 0} (p : X → Bool) (xs : List X) (n m : ℕ) → n ≤ length xs → m ≤ length (drop n xs)
    → All (λ x. p x ≡ false) (take n xs) → All (λ x. p x ≡ true) (take m (drop n xs)) → All (λ x. p x ≡ false) (drop m (drop n xs))
    → filter p xs ≡ take m (drop n xs)
filter_run p xs n m within inside front mid back =
    ap (filter p) (sym (take-append-drop n xs))
    ∙ filter-append p (take n xs) (drop n xs)
    ∙ ap (λ ys. ys ++ filter p (drop n xs)) (filter_none p (take n xs) front)
    ∙ ap (filter p) (sym (take-append-drop m (drop n xs)))
    ∙ filter-append p (take m (drop n xs)) (drop m (drop n xs))
    ∙ ap (λ ys. filter p (take m (drop n xs)) ++ ys) (filter_none p (drop m (drop n xs)) back)
    ∙ append-nil (filter p (take m (drop n xs)))
    ∙ filter_all p (take m (drop n xs)) mid

-- ---- the elements with one number

pub other_key : (a b : ℕ) → (a ≡ b → ⊥) → (a == b) ≡ false
other_key a b apart = false_from_ne_true (a == b) (λ same. apart (eqb-true a b same))

-- behind the elements with lesser numbers the list is in order, those with this number first
pub key_first : {X : Type 0} (key : X → ℕ) (xs : List X) (k start : ℕ) → IsNonDecreasingBy key xs → start ≤ length xs
    → AllWithin (λ x. nat_lt (key x) k ≡ false) xs start (length xs) → IsPartitionedBy (λ x. key x == k) (drop start xs)
key_first key xs k start sorted within late i j d le below same =
    let long = length-drop start xs in
    let first = get_or-drop start xs i d in
    let second = get_or-drop start xs j d in
    let is : key (get_or (drop start xs) j d) ≡ k = eqb-true (key (get_or (drop start xs) j d)) k same in
    let rises : key (get_or xs (start + i) d) ≤ key (get_or xs (start + j) d) =
    sorted (start + i) (start + j) d (omega (arith, le)) (omega (arith, below, long, within)) in
    let least = ltb-false (key (get_or xs (start + i) d)) k (late (start + i) d (omega arith) (omega (arith, le, below, long, within))) in
    let here : key (get_or (drop start xs) i d) ≡ key (get_or xs (start + i) d) = ap key first in
    let there : key (get_or (drop start xs) j d) ≡ key (get_or xs (start + j) d) = ap key second in
    eq-eqb (key (get_or (drop start xs) i d)) k (omega (arith, is, rises, least, here, there))

-- and they are all of them
pub key_is : {X : Type 0} (key : X → ℕ) (xs : List X) (k start count : ℕ) → start ≤ length xs → count ≤ length (drop start xs)
    → AllWithin (λ x. nat_lt (key x) k ≡ true) xs 0 start → AllWithin (λ x. (key x == k) ≡ true) (drop start xs) 0 count
    → AllWithin (λ x. (key x == k) ≡ false) (drop start xs) count (length (drop start xs))
    → take count (drop start xs) ≡ filter (λ x. key x == k) xs
key_is key xs k start count within inside before here behind =
    sym (filter_run (λ x. key x == k) xs start count within inside
    (front_all (λ x. (key x == k) ≡ false) xs start within (λ i d from below.
    other_key (key (get_or xs i d)) k (λ same. let less = ltb-true (key (get_or xs i d)) k (before i d from below) in
    omega (arith, less, same))))
    (front_all (λ x. (key x == k) ≡ true) (drop start xs) count inside here)
    (back_all (λ x. (key x == k) ≡ false) (drop start xs) count inside behind))
