-- Lists of rising numbers: numbers by numbers, the whole range, and lists with the same elements.
use Rattle.std.proofs.Common.{◌≡◌, ◌∙◌, ℕ, zero, suc, ◌+◌, ◌-◌, ◌<◌, ◌≤◌, List, [], ◌∷◌, map, length, get_or, slice_index, inl, inr, refl}
use Rattle.std.proofs.Common.{sym, ap, subst, arith}
use Rattle.std.specs.Prelude.{Contains}
use Rattle.std.specs.List.{range_with_len}
use Rattle.std.specs.List.Sorted.{IsStrictlyIncreasing}
use Rattle.std.proofs.lemmas.Bool.{cases_lt}
use Rattle.std.proofs.lemmas.List.{length-map, get_or-map, get_or_default}
use Rattle.std.proofs.lemmas.List.FromFn.{length-range_with_len, get_or-range_with_len}
use Rattle.std.proofs.lemmas.List.Kept.{AllPairs-from_increasing}
use Rattle.arc_map.proofs.Rising.{rising_order, later_is_greater}

-- ---- order by place, and back

pub rises : (xs : List ℕ) → IsStrictlyIncreasing xs → (i j : ℕ) → i < j → j < length xs → slice_index xs i < slice_index xs j
rises xs rising i j less below = AllPairs-from_increasing xs rising i j 0 less below

-- the place of the lesser element is the lesser
pub earlier : (xs : List ℕ) → IsStrictlyIncreasing xs → (i j : ℕ) → i < length xs → j < length xs → slice_index xs i < slice_index xs j
    → i < j
earlier xs rising i j inside below less = elim (cases_lt i j) [
  | inl before ↦ before
  | inr past ↦ absurd (omega (arith, rising_order xs rising j i past inside))
]

-- an element of the list has a place
pub record IsAt (xs : List ℕ) (x : ℕ) : Type 0 where
  pub place : ℕ
  pub below : place < length xs
  pub is : slice_index xs place ≡ x

pub at-place : (xs : List ℕ) (x : ℕ) → Contains xs x → IsAt xs x
at-place xs x held = record { place = held.0; below = held.1; is = get_or_default xs held.0 0 x held.1 ∙ held.2 }

pub contains-at : (xs : List ℕ) (x i : ℕ) → i < length xs → slice_index xs i ≡ x → Contains xs x
contains-at xs x i below is = (i, below, sym (get_or_default xs i 0 x below) ∙ is)

-- no element is above the last
pub up-to-last : (xs : List ℕ) → IsStrictlyIncreasing xs → (i : ℕ) → i < length xs → slice_index xs i ≤ slice_index xs (length xs - 1)
up-to-last xs rising i below = rising_order xs rising i (length xs - 1) (omega arith) (omega arith)

-- ---- elements by numbers

pub picked : (xs ks : List ℕ) (n : ℕ) → n < length ks → slice_index (map (slice_index xs) ks) n ≡ slice_index xs (slice_index ks n)
picked xs ks n below = get_or-map (slice_index xs) ks n 0 0 below

pub picked-rise : (xs ks : List ℕ) → IsStrictlyIncreasing xs → IsStrictlyIncreasing ks
    → ((n : ℕ) → n < length ks → slice_index ks n < length xs) → IsStrictlyIncreasing (map (slice_index xs) ks)
picked-rise xs ks rising along within n below =
    let count = length-map ks (slice_index xs) in
    let here : n < length ks = omega arith in
    let next : n + 1 < length ks = omega arith in
    let less = rises xs rising (slice_index ks n) (slice_index ks (n + 1)) (along n next) (within (n + 1) next) in
    omega (arith, picked xs ks n here, picked xs ks (n + 1) next, less)

-- what is picked is an element
pub picked-is : (xs ks : List ℕ) (x : ℕ) → ((n : ℕ) → n < length ks → slice_index ks n < length xs) → Contains (map (slice_index xs) ks) x
    → Contains xs x
picked-is xs ks x within held =
    let there = at-place (map (slice_index xs) ks) x held in
    let count = length-map ks (slice_index xs) in
    let under = there.below in
    let below : there.place < length ks = omega arith in
    contains-at xs x (slice_index ks there.place) (within there.place below) (sym (picked xs ks there.place below) ∙ there.is)

pub map-picked : {A : Type 0} (f : ℕ → A) (xs ks : List ℕ) (qs : List A) (d : A) → qs ≡ map f xs
    → ((n : ℕ) → n < length ks → slice_index ks n < length xs) → map (λ i. get_or qs i d) ks ≡ map f (map (slice_index xs) ks)
map-picked f xs [] qs d same within = refl
map-picked {A = A} f xs (k ∷ ks) qs d same within =
    let below : k < length xs = within 0 (omega arith) in
    let one : get_or qs k d ≡ f (slice_index xs k) = ap (λ (bs : List A). get_or bs k d) same ∙ get_or-map f xs k 0 d below in
    ap (λ (b : A). b ∷ map (λ i. get_or qs i d) ks) one ∙ ap (λ (bs : List A). f (slice_index xs k) ∷ bs)
    (map-picked f xs ks qs d same (λ n under. within (suc n) (omega arith)))

-- ---- the whole range

pub range-at : (n i : ℕ) → i < n → slice_index (range_with_len 0 n) i ≡ i
range-at n i below = let same : 0 + i ≡ i = omega arith in get_or-range_with_len 0 n i 0 below ∙ same

pub range-rises : (n : ℕ) → IsStrictlyIncreasing (range_with_len 0 n)
range-rises n i below =
    let count = length-range_with_len 0 n in
    omega (arith, range-at n i (omega arith), range-at n (i + 1) (omega arith))

pub in-range : (n x : ℕ) → x < n → Contains (range_with_len 0 n) x
in-range n x below =
    let count = length-range_with_len 0 n in
    contains-at (range_with_len 0 n) x x (omega arith) (range-at n x below)
