-- What a list holds, and what is kept or told of its elements.
use Rattle.std.proofs.Common.{◌≡◌, ◌∙◌, ◌<◌, ℕ, zero, suc, Bool, true, false, cond, List, [], ◌∷◌, All, Contains, Option, Some, None}
use Rattle.std.proofs.Common.{filter, length, map, arith, refl, ap, sym, subst}
use Rattle.std.specs.List.{filter_map, cons_option}
use Rattle.std.proofs.lemmas.Bool.{true≢false}
use Rattle.std.proofs.lemmas.List.{get_or-map, length-map}
use Rattle.std.proofs.lemmas.List.Elements.{All-cons, All-head, All-nil, All-tail}

pub some_of : {X : Type 0} (xs : List X) (k : ℕ) → k < length xs → X
some_of [] k within = absurd (omega (arith, within))
some_of (x ∷ xs) k within = x

pub map_holds : {X Y : Type 0} (f : X → Y) (xs : List X) (x : X) → Contains xs x → Contains (map f xs) (f x)
map_holds f xs x held =
    let long = length-map xs f in
    (held.0, omega (arith, long, held.1), get_or-map f xs held.0 x (f x) held.1 ∙ ap f held.2)

-- ---- what is kept

kept_first : {X : Type 0} (p : X → Bool) (x : X) (xs : List X) (b : Bool) → p x ≡ true → b ≡ p x → Contains (cond b (x ∷ xs) xs) x
kept_first p x xs true passes is = (0, omega arith, refl)
kept_first p x xs false passes is = absurd (true≢false (sym passes ∙ sym is))

kept_later : {X : Type 0} (x y : X) (xs : List X) (b : Bool) → Contains xs y → Contains (cond b (x ∷ xs) xs) y
kept_later x y xs true held = (suc held.0, omega (arith, held.1), held.2)
kept_later x y xs false held = held

-- what passes is kept
pub filter_holds : {X : Type 0} (p : X → Bool) (xs : List X) (x : X) → Contains xs x → p x ≡ true → Contains (filter p xs) x
filter_holds p [] x held passes = absurd (omega (arith, held.1))
filter_holds p (y ∷ xs) x (zero, within, same) passes = subst (λ z. Contains (filter p (z ∷ xs)) x) (sym same)
    (kept_first p x (filter p xs) (p x) passes refl)
filter_holds p (y ∷ xs) x (suc k, within, same) passes = kept_later y x (filter p xs) (p y)
    (filter_holds p xs x (k, omega (arith, within), same) passes)

-- ---- what is told

told_by : {Y : Type 0} (P : Y → Type 0) (ys : List Y) (o : Option Y) → ((y : Y) → o ≡ Some y → P y) → All P ys → All P (cons_option o ys)
told_by P ys None each all = all
told_by P ys (Some y) each all = All-cons P y ys (each y refl) all

-- what is told of each element has what each telling has
pub told : {X Y : Type 0} (P : Y → Type 0) (h : X → Option Y) (Q : X → Type 0) → ((x : X) (y : Y) → Q x → h x ≡ Some y → P y)
    → (xs : List X) → All Q xs → All P (filter_map h xs)
told P h Q each [] all = All-nil P
told P h Q each (x ∷ xs) all = told_by P (filter_map h xs) (h x) (λ y is. each x y (All-head Q x xs all) is)
    (told P h Q each xs (All-tail Q x xs all))

holds_head : {Y : Type 0} (ys : List Y) (o : Option Y) (y : Y) → o ≡ Some y → Contains (cons_option o ys) y
holds_head ys o y is = subst (λ p. Contains (cons_option p ys) y) (sym is) (0, omega arith, refl)

holds_rest : {Y : Type 0} (ys : List Y) (o : Option Y) (y : Y) → Contains ys y → Contains (cons_option o ys) y
holds_rest ys None y held = held
holds_rest ys (Some x) y held = (suc held.0, omega (arith, held.1), held.2)

-- what an element of the list tells is told
pub told_holds : {X Y : Type 0} (h : X → Option Y) (xs : List X) (x : X) (y : Y) → Contains xs x → h x ≡ Some y
    → Contains (filter_map h xs) y
told_holds h [] x y held is = absurd (omega (arith, held.1))
told_holds h (z ∷ xs) x y (zero, within, same) is = holds_head (filter_map h xs) (h z) y (ap h same ∙ is)
told_holds h (z ∷ xs) x y (suc k, within, same) is = holds_rest (filter_map h xs) (h z) y
    (told_holds h xs x y (k, omega (arith, within), same) is)
