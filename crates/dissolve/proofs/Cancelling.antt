-- What is named an even number of times drops out of a parity.
use Rattle.std.proofs.Common.{◌≡◌, ◌∙◌, ℕ, zero, suc, ◌+◌, ◌<◌, ◌≤◌, ◌==◌, Bool, true, false, cond, List, [], ◌∷◌, All, length, get_or}
use Rattle.std.proofs.Common.{filter, refl, sym, ap, arith, inl, inr}
use Rattle.std.specs.Prelude.{◌&&◌}
use Rattle.std.specs.List.{range_with_len}
use Rattle.std.proofs.lemmas.Bool.{cases_eq, eq-eqb, ne_eqb}
use Rattle.std.proofs.lemmas.List.Elements.{All-append, All-head, All-nil, All-tail}
use Rattle.grid_exact.specs.Walks.{differ}
use Rattle.grid_exact.proofs.Crossings.{differ_false}
use Rattle.arc_map.specs.Map.{Map, IsMap}
use Rattle.face_parity.specs.Parities.{pass_oddly}
use Rattle.face_parity.proofs.Sums.{pass-agree, pass-none, pass-swap}
use Rattle.dissolve.specs.Odd.{named_arcs, has_edge, is_odd_arc, odd_arcs}
use Rattle.dissolve.proofs.Booleans.{and-true, and-false}

none-in-range : (f : ℕ → Bool) (x a n : ℕ) → x < a → pass_oddly (λ k. (x == k) && f k) (range_with_len a n) ≡ false
none-in-range f x a zero below = refl
none-in-range f x a (suc n) below =
    ap (λ b. differ (b && f a) (pass_oddly (λ k. (x == k) && f k) (range_with_len (a + 1) n)))
    (ne_eqb x a (λ same. omega (arith, same, below)))
    ∙ none-in-range f x (a + 1) n (omega (arith, below))

-- a number is once in a range
one-in-range : (f : ℕ → Bool) (x a n : ℕ) → a ≤ x → x < a + n → pass_oddly (λ k. (x == k) && f k) (range_with_len a n) ≡ f x
one-in-range f x a zero low high = absurd (omega (arith, low, high))
one-in-range f x a (suc n) low high =
    let rest = pass_oddly (λ k. (x == k) && f k) (range_with_len (a + 1) n) in
    elim (cases_eq x a) [
      | inl same ↦
          ap (λ b. differ (b && f a) rest) (eq-eqb x a same)
          ∙ ap (differ (f a)) (none-in-range f x (a + 1) n (omega (arith, same)))
          ∙ differ_false (f a) ∙ ap f (sym same)
      | inr apart ↦
          ap (λ b. differ (b && f a) rest) (ne_eqb x a apart)
          ∙ one-in-range f x (a + 1) n (omega (arith, low, apart)) (omega (arith, high))
    ]

and-out : {X : Type 0} (test : X → Bool) (b : Bool) (xs : List X) → pass_oddly (λ x. test x && b) xs ≡ (pass_oddly test xs && b)
and-out test true xs = pass-agree (λ x. test x && true) test xs (λ k d within. and-true (test (get_or xs k d)))
    ∙ sym (and-true (pass_oddly test xs))
and-out test false xs = pass-none (λ x. test x && false) xs (λ k d within. and-false (test (get_or xs k d)))
    ∙ sym (and-false (pass_oddly test xs))

pub pass-filter : {X : Type 0} (f g : X → Bool) (xs : List X) → pass_oddly f (filter g xs) ≡ pass_oddly (λ x. g x && f x) xs
pass-filter f g [] = refl
pass-filter f g (x ∷ xs) = elim (g x) as (λ b. pass_oddly f (cond b (x ∷ filter g xs) (filter g xs))
    ≡ differ (b && f x) (pass_oddly (λ y. g y && f y) xs)) [
      | true ↦ ap (differ (f x)) (pass-filter f g xs)
      | false ↦ pass-filter f g xs
    ]

-- the parity of numbers below n is that of those which are among them an odd number of times
cancelled : (f : ℕ → Bool) (xs : List ℕ) (n : ℕ) → All (λ x. x < n) xs
    → pass_oddly f xs ≡ pass_oddly (λ k. pass_oddly (λ x. x == k) xs && f k) (range_with_len 0 n)
cancelled f xs n below =
    let range = range_with_len 0 n in
    pass-agree f (λ x. pass_oddly (λ k. (x == k) && f k) range) xs (λ i d within.
    sym (one-in-range f (get_or xs i d) 0 n (omega arith) (let less = below i d within in omega (arith, less))))
    ∙ pass-swap (λ x k. (x == k) && f k) xs range
    ∙ pass-agree (λ k. pass_oddly (λ x. (x == k) && f k) xs) (λ k. pass_oddly (λ x. x == k) xs && f k) range (λ i d within.
    and-out (λ x. x == get_or range i d) (f (get_or range i d)) xs)

-- the polygons name arcs of the map
pub named-below : (m : Map) (polygons : List ℕ) → IsMap m → All (λ k. k < length m.polygons) polygons
    → All (λ arc. arc < length m.arcs) (named_arcs m polygons)
named-below m [] is known = All-nil (λ arc. arc < length m.arcs)
named-below m (k ∷ ks) is known =
    All-append (λ arc. arc < length m.arcs) (get_or m.polygons k []) (named_arcs m ks)
    (is.names k [] (All-head (λ i. i < length m.polygons) k ks known))
    (named-below m ks is (All-tail (λ i. i < length m.polygons) k ks known))

edge-first : (edge odd b : Bool) → (edge ≡ false → b ≡ false) → (odd && b) ≡ ((edge && odd) && b)
edge-first true odd b none = refl
edge-first false odd b none = ap (λ c. odd && c) (none refl) ∙ and-false odd

-- what no arc without an edge passes is passed by the odd arcs as by those that the polygons name
pub odd-cancelled : (m : Map) (polygons : List ℕ) (f : ℕ → Bool) → IsMap m → All (λ k. k < length m.polygons) polygons
    → ((k : ℕ) → has_edge m k ≡ false → f k ≡ false) → pass_oddly f (named_arcs m polygons) ≡ pass_oddly f (odd_arcs m polygons)
odd-cancelled m polygons f is known none =
    let named = named_arcs m polygons in
    let range = range_with_len 0 (length m.arcs) in
    cancelled f named (length m.arcs) (named-below m polygons is known)
    ∙ pass-agree (λ k. pass_oddly (λ x. x == k) named && f k) (λ k. is_odd_arc m named k && f k) range (λ i d within. let k =
    get_or range i d in edge-first (has_edge m k) (pass_oddly (λ x. x == k) named) (f k) (none k))
    ∙ sym (pass-filter f (is_odd_arc m named) range)
