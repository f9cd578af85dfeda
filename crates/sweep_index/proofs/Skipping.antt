-- A filter of what is left of a list, when elements that do not pass are skipped.
use Rattle.std.proofs.Common.{◌≡◌, ◌∙◌, ◌+◌, ◌<◌, ◌≤◌, ◌⊎◌, inl, inr, ℕ, zero, suc, List, [], ◌∷◌, Bool, true, false, length, get_or, map}
use Rattle.std.proofs.Common.{drop, arith, refl, ap, sym}
use Rattle.std.specs.Prelude.{filter}
use Rattle.std.proofs.lemmas.Bool.{both_ways, cases_eq, cond-false, cond-true, false_from_ne_true}
use Rattle.std.proofs.lemmas.List.{drop_more}

-- no element from place `at` on, and before place `to`, passes
abbrev pub NoneBetween : {X : Type 0} → (X → Bool) → List X → ℕ → ℕ → Type 0
NoneBetween {X} p xs at to = (k : ℕ) → at ≤ k → k < to → k < length xs → ((d : X) → p (get_or xs k d) ≡ true) → ⊥

pub filter-drop_past : {X Y : Type 0} (p : Y → Bool) (f : X → Y) (xs : List X) (at to : ℕ) → at ≤ to → NoneBetween (λ x. p (f x)) xs at to
    → filter p (map f (drop at xs)) ≡ filter p (map f (drop to xs))
filter-drop_past p f [] zero zero le none = refl
filter-drop_past p f [] zero (suc to) le none = refl
filter-drop_past p f [] (suc at) zero le none = refl
filter-drop_past p f [] (suc at) (suc to) le none = refl
filter-drop_past p f (x ∷ xs) zero zero le none = refl
filter-drop_past p f (x ∷ xs) zero (suc to) le none =
    let fails = false_from_ne_true (p (f x)) (λ yes. none 0 (omega arith) (omega arith) (omega arith) (λ d. yes)) in
    cond-false (p (f x)) (f x ∷ filter p (map f xs)) (filter p (map f xs)) fails
    ∙ filter-drop_past p f xs zero to (omega arith) (λ k l m n. none (suc k) (omega arith) (omega arith) (omega arith))
filter-drop_past p f (x ∷ xs) (suc at) zero le none = absurd (omega (arith, le))
filter-drop_past p f (x ∷ xs) (suc at) (suc to) le none = filter-drop_past p f xs at to (omega (arith, le)) (λ k l m n.
    none (suc k) (omega (arith, l)) (omega (arith, m)) (omega (arith, n)))

none_more_by : {X : Type 0} (p : X → Bool) (xs : List X) (at k : ℕ) (x : X) → p (get_or xs k x) ≡ false
    → ((j : ℕ) → at ≤ j → j < k → ((d : X) → p (get_or xs j d) ≡ true) → ⊥) → (j : ℕ) → at ≤ j → j < k + 1
    → ((d : X) → p (get_or xs j d) ≡ true) → ((j ≡ k) ⊎ (j ≡ k → ⊥)) → ⊥
none_more_by p xs at k x fails none j l m found (inl same) = both_ways (p (get_or xs k x)) fails (ap (λ n. p (get_or xs n x)) (sym same)
    ∙ found x)
none_more_by p xs at k x fails none j l m found (inr other) = none j l (omega (arith, m, other)) found

-- one more element that does not pass
pub none_more : {X : Type 0} (p : X → Bool) (xs : List X) (at k : ℕ) (x : X) → p (get_or xs k x) ≡ false
    → ((j : ℕ) → at ≤ j → j < k → ((d : X) → p (get_or xs j d) ≡ true) → ⊥) → (j : ℕ) → at ≤ j → j < k + 1
    → ((d : X) → p (get_or xs j d) ≡ true) → ⊥
none_more p xs at k x fails none j l m found = none_more_by p xs at k x fails none j l m found (cases_eq j k)

-- a filter of what is left when the next element that passes is at place k
pub filter-drop_to : {X Y : Type 0} (p : Y → Bool) (f : X → Y) (xs : List X) (at k : ℕ) (x : X) → at ≤ k → k < length xs → x ≡ get_or xs k x
    → p (f x) ≡ true → NoneBetween (λ x. p (f x)) xs at k → filter p (map f (drop at xs)) ≡ f x ∷ filter p (map f (drop (k + 1) xs))
filter-drop_to p f xs at k x le within is passes none =
    let past = filter-drop_past p f xs at k le none in
    let step : filter p (map f (drop k xs)) ≡ filter p (f (get_or xs k x) ∷ map f (drop (k + 1) xs)) =
    ap (λ ys. filter p (map f ys)) (drop_more xs k x within) in
    let here : filter p (f (get_or xs k x) ∷ map f (drop (k + 1) xs)) ≡ filter p (f x ∷ map f (drop (k + 1) xs)) =
    ap (λ y. filter p (f y ∷ map f (drop (k + 1) xs))) (sym is) in
    past ∙ step ∙ here ∙ cond-true (p (f x)) (f x ∷ filter p (map f (drop (k + 1) xs))) (filter p (map f (drop (k + 1) xs))) passes

-- a filter of what is left when nothing more passes
pub filter-drop_none : {X Y : Type 0} (p : Y → Bool) (f : X → Y) (xs : List X) (at : ℕ) → NoneBetween (λ x. p (f x)) xs at (length xs)
    → filter p (map f (drop at xs)) ≡ []
filter-drop_none p f [] zero none = refl
filter-drop_none p f [] (suc at) none = refl
filter-drop_none p f (x ∷ xs) zero none =
    let fails = false_from_ne_true (p (f x)) (λ yes. none 0 (omega arith) (omega arith) (omega arith) (λ d. yes)) in
    cond-false (p (f x)) (f x ∷ filter p (map f xs)) (filter p (map f xs)) fails
    ∙ filter-drop_none p f xs zero (λ k l m n. none (suc k) (omega arith) (omega (arith, m)) (omega (arith, n)))
filter-drop_none p f (x ∷ xs) (suc at) none = filter-drop_none p f xs at (λ k l m n.
    none (suc k) (omega (arith, l)) (omega (arith, m)) (omega (arith, n)))
