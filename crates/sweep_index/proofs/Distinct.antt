-- Elements of lists that differ two by two.
use Rattle.std.proofs.Common.{◌≡◌, ◌≢◌, inl, inr, ◌<◌, ℕ, suc, List, [], ◌∷◌, ◌++◌, All, AllPairs, Option, Some, None, length, get_or, map}
use Rattle.std.proofs.Common.{swap, arith, refl, ap, sym, subst, ◌∙◌}
use Rattle.std.specs.List.{filter_map, cons_option}
use Rattle.std.specs.List.Sorted.{IsPermutation}
use Rattle.std.proofs.lemmas.Bool.{cases_eq, cases_lt}
use Rattle.std.proofs.lemmas.List.{get_or-map, length-map}
use Rattle.std.proofs.lemmas.List.Edits.{Swapped, swapped_from_swap, length-swap}
use Rattle.std.proofs.lemmas.List.Elements.{All-append, All-head, All-map, All-tail}
use Rattle.std.proofs.lemmas.List.Kept.{AllPairs-cons}
use Rattle.std.proofs.lemmas.List.Sorted.{IsPermutation-keeps}
use Rattle.sweep_index.proofs.Holding.{told}

pub pairs_head : {X : Type 0} (R : X → X → Type 0) (x : X) (xs : List X) → AllPairs R (x ∷ xs) → All (R x) xs
pairs_head R x xs all k d within = all 0 (suc k) d (omega arith) (omega (arith, within))

pub pairs_tail : {X : Type 0} (R : X → X → Type 0) (x : X) (xs : List X) → AllPairs R (x ∷ xs) → AllPairs R xs
pairs_tail R x xs all i j d lt within = all (suc i) (suc j) d (omega (arith, lt)) (omega (arith, within))

pub pairs_nil : {X : Type 0} (R : X → X → Type 0) → AllPairs R []
pairs_nil R i j d lt within = absurd (omega (arith, within))

-- two lists whose elements are apart, one behind the other
pub pairs_append : {X : Type 0} (R : X → X → Type 0) (xs ys : List X) → AllPairs R xs → AllPairs R ys → All (λ x. All (R x) ys) xs
    → AllPairs R (xs ++ ys)
pairs_append R [] ys first second across = second
pairs_append R (x ∷ xs) ys first second across =
    let head = All-append (R x) xs ys (pairs_head R x xs first) (All-head (λ z. All (R z) ys) x xs across) in
    AllPairs-cons R x (xs ++ ys) head (pairs_append R xs ys (pairs_tail R x xs first) second (All-tail (λ z. All (R z) ys) x xs across))

pub pairs_from_map : {X Y : Type 0} (R : Y → Y → Type 0) (f : X → Y) (xs : List X) → AllPairs R (map f xs)
    → AllPairs (λ x y. R (f x) (f y)) xs
pairs_from_map R f xs all i j d lt within =
    let long = length-map xs f in
    let left : get_or (map f xs) i (f d) ≡ f (get_or xs i d) = get_or-map f xs i d (f d) (omega (arith, lt, within)) in
    let right : get_or (map f xs) j (f d) ≡ f (get_or xs j d) = get_or-map f xs j d (f d) within in
    subst (R (f (get_or xs i d))) right (subst (λ y. R y (get_or (map f xs) j (f d))) left (all i j (f d) lt (omega (arith, long, within))))

pub pairs_map : {X Y : Type 0} (R : Y → Y → Type 0) (f : X → Y) (xs : List X) → AllPairs (λ x y. R (f x) (f y)) xs → AllPairs R (map f xs)
pairs_map R f [] all = pairs_nil R
pairs_map R f (x ∷ xs) all = AllPairs-cons R (f x) (map f xs) (All-map (R (f x)) f xs (pairs_head (λ x y. R (f x) (f y)) x xs all))
    (pairs_map R f xs (pairs_tail (λ x y. R (f x) (f y)) x xs all))

-- where a place went when a and b changed places
moved : {X : Type 0} (f g : ℕ → X) (a b n : ℕ) → Swapped f g a b → a < n → b < n → (p : ℕ) → p < n
    → (s : ℕ) × (s < n) × (g p ≡ f s) × (p ≡ a → s ≡ b) × (p ≡ b → s ≡ a) × ((p ≡ a → ⊥) → (p ≡ b → ⊥) → s ≡ p)
moved f g a b n sw la lb p lp = elim (cases_eq p a) [
  | inl ea ↦ (b, lb, ap g ea ∙ sw.0, (λ _. refl), (λ eb. omega (arith, ea, eb)), (λ u v. absurd (u ea)))
  | inr na ↦ elim (cases_eq p b) [
    | inl eb ↦ (a, la, ap g eb ∙ sw.1, (λ e. absurd (na e)), (λ _. refl), (λ u v. absurd (v eb)))
    | inr nb ↦ (p, lp, sw.2 p na nb, (λ e. absurd (na e)), (λ e. absurd (nb e)), (λ u v. refl))
  ]
]

-- two places go to two places
images_differ : (a b i j s t : ℕ) → (i ≡ j → ⊥) → (i ≡ a → s ≡ b) → (i ≡ b → s ≡ a) → ((i ≡ a → ⊥) → (i ≡ b → ⊥) → s ≡ i) → (j ≡ a → t ≡ b)
    → (j ≡ b → t ≡ a) → ((j ≡ a → ⊥) → (j ≡ b → ⊥) → t ≡ j) → s ≡ t → ⊥
images_differ a b i j s t ne p q r x y z e = grind arith

either_order : {X : Type 0} (R : X → X → Type 0) → ((x y : X) → R x y → R y x) → (xs : List X) → AllPairs R xs → (s t : ℕ) (d : X)
    → (s ≡ t → ⊥) → s < length xs → t < length xs → R (get_or xs s d) (get_or xs t d)
either_order R flips xs all s t d apart first second = elim (cases_lt s t) [
  | inl below ↦ all s t d below second
  | inr above ↦ flips _ _ (all t s d (omega (arith, apart, above)) first)
]

-- the order does not matter where the relation holds both ways
pub pairs_permutation : {X : Type 0} (R : X → X → Type 0) → ((x y : X) → R x y → R y x) → (xs ys : List X) → IsPermutation xs ys
    → AllPairs R xs → AllPairs R ys
pairs_permutation R flips xs ys moves start = IsPermutation-keeps xs (AllPairs R) start (λ l a b la lb all i j d lt within.
    let n = length l in
    let long = length-swap l a b in
    let sw = swapped_from_swap l (swap l a b) a b d la lb refl in
    let u = moved _ _ a b n sw la lb i (omega (arith, long, lt, within)) in
    let v = moved _ _ a b n sw la lb j (omega (arith, long, within)) in
    let apart = either_order R flips l all u.0 v.0 d (images_differ a b i j u.0 v.0 (λ e. omega (arith, e, lt)) u.3 u.4 u.5 v.3 v.4 v.5) u.1
    v.1 in
    subst (R (get_or (swap l a b) i d)) (sym v.2) (subst (λ x. R x (get_or l v.0 d)) (sym u.2) apart)) ys moves

pub apart_flips : {X : Type 0} (x y : X) → x ≢ y → y ≢ x
apart_flips x y apart same = apart (sym same)

-- what is told of different elements differs
told_of : {Y : Type 0} (ys : List Y) (R : Y → Y → Type 0) (o : Option Y) → ((y : Y) → o ≡ Some y → All (R y) ys) → AllPairs R ys
    → AllPairs R (cons_option o ys)
told_of ys R None head all = all
told_of ys R (Some y) head all = AllPairs-cons R y ys (head y refl) all

pub told_apart : {X Y : Type 0} (h : X → Option Y) (Q : X → X → Type 0) → ((x z : X) (y : Y) → Q x z → h x ≡ Some y → h z ≡ Some y → ⊥)
    → (xs : List X) → AllPairs Q xs → AllPairs (λ y z. y ≢ z) (filter_map h xs)
told_apart h Q each [] all = pairs_nil (λ y z. y ≢ z)
told_apart h Q each (x ∷ xs) all =
    told_of (filter_map h xs) (λ y z. y ≢ z) (h x)
    (λ y is. told (λ z. y ≢ z) h (Q x) (λ w z near tells same. each x w y near is (subst (λ v. h w ≡ Some v) (sym same) tells)) xs
    (pairs_head Q x xs all))
    (told_apart h Q each xs (pairs_tail Q x xs all))
