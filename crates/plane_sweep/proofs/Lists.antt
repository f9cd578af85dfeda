-- Lists in parts: what holds of each element, of each two and of neighbours.
use Rattle.std.proofs.Common.{◌≡◌, ◌⊎◌, ◌∙◌, ◌==◌, false, IsTrue, length, inl, inr, zero, suc, List, [], ◌∷◌, ◌++◌, refl, sym, subst, arith}
use Rattle.std.specs.Prelude.{Contains}
use Rattle.std.proofs.lemmas.List.Elements.{Contains-append_cases, Contains-append_left, Contains-append_right}
use Rattle.std.proofs.lemmas.Bool.{eqb-true}
use Rattle.arc_map.specs.Edges.{EachOf, EachTwo}
use Rattle.plane_sweep.specs.Passage.{FirstHas, LastHas, Chained}

pub contains_cases : {X : Type 0} (x : X) (xs : List X) (y : X) → Contains (x ∷ xs) y → (x ≡ y) ⊎ Contains xs y
contains_cases x xs y (zero, within, is) = inl is
contains_cases x xs y (suc k, within, is) = inr (k, omega (arith, within), is)

pub contains_none : {X : Type 0} (y : X) → ¬ (Contains [] y)
contains_none y (k, within, is) = omega (arith, within)

pub contains_first : {X : Type 0} (x : X) (xs : List X) → Contains (x ∷ xs) x
contains_first x xs = (0, omega arith, refl)

pub contains_later : {X : Type 0} (x : X) (xs : List X) (y : X) → Contains xs y → Contains (x ∷ xs) y
contains_later x xs y (k, within, is) = (suc k, omega (arith, within), is)

-- ---- each element

pub of_each : {X : Type 0} (P : X → Type 0) (xs : List X) → EachOf P xs → (x : X) → Contains xs x → P x
of_each P [] each x member = absurd (contains_none x member)
of_each P (y ∷ ys) each x member = elim (contains_cases y ys x member) [
  | inl same ↦ subst P same each.0
  | inr later ↦ of_each P ys each.1 x later
]

pub each_by : {X : Type 0} (P : X → Type 0) (xs : List X) → ((x : X) → Contains xs x → P x) → EachOf P xs
each_by P [] all = tt
each_by P (x ∷ xs) all = (all x (contains_first x xs), each_by P xs (λ y member. all y (contains_later x xs y member)))

-- ---- each two

pub two_first : {X : Type 0} (R : X → X → Type 0) (xs ys : List X) → EachTwo R (xs ++ ys) → EachTwo R xs
two_first R [] ys two = tt
two_first R (x ∷ xs) ys two = (
  each_by (R x) xs (λ y member. of_each (R x) (xs ++ ys) two.0 y (Contains-append_left xs ys y member)),
  two_first R xs ys two.1,
)

pub two_second : {X : Type 0} (R : X → X → Type 0) (xs ys : List X) → EachTwo R (xs ++ ys) → EachTwo R ys
two_second R [] ys two = two
two_second R (x ∷ xs) ys two = two_second R xs ys two.1

pub two_across : {X : Type 0} (R : X → X → Type 0) (xs ys : List X) → EachTwo R (xs ++ ys) → (x y : X) → Contains xs x → Contains ys y
    → R x y
two_across R [] ys two x y first second = absurd (contains_none x first)
two_across R (z ∷ zs) ys two x y first second = elim (contains_cases z zs x first) [
  | inl same ↦ subst (λ w. R w y) same (of_each (R z) (zs ++ ys) two.0 y (Contains-append_right zs ys y second))
  | inr later ↦ two_across R zs ys two.1 x y later second
]

pub two_joined : {X : Type 0} (R : X → X → Type 0) (xs ys : List X) → EachTwo R xs → EachTwo R ys
    → ((x y : X) → Contains xs x → Contains ys y → R x y) → EachTwo R (xs ++ ys)
two_joined R [] ys first second across = second
two_joined R (x ∷ xs) ys first second across = (
  each_by (R x) (xs ++ ys) (λ y member. elim (Contains-append_cases xs ys y member) [
    | inl here ↦ of_each (R x) xs first.0 y here
    | inr there ↦ across x y (contains_first x xs) there
  ]),
  two_joined R xs ys first.1 second (λ w y member. across w y (contains_later x xs w member)),
)

-- of two elements that are not one, the one or the other comes first
pub two_either : {X : Type 0} (R : X → X → Type 0) (xs : List X) → EachTwo R xs → (x y : X) → Contains xs x → Contains xs y → ¬ (x ≡ y)
    → R x y ⊎ R y x
two_either R [] two x y first second apart = absurd (contains_none x first)
two_either R (z ∷ zs) two x y first second apart = elim (contains_cases z zs x first) [
  | inl same ↦ elim (contains_cases z zs y second) [
    | inl too ↦ absurd (apart (sym same ∙ too))
    | inr later ↦ inl (subst (λ w. R w y) same (of_each (R z) zs two.0 y later))
  ]
  | inr early ↦ elim (contains_cases z zs y second) [
    | inl too ↦ inr (subst (λ w. R w x) too (of_each (R z) zs two.0 x early))
    | inr later ↦ two_either R zs two.1 x y early later apart
  ]
]

-- ---- neighbours

pub chained_first : {X : Type 0} (R : X → X → Type 0) (xs ys : List X) → Chained R (xs ++ ys) → Chained R xs
chained_first R [] ys chain = tt
chained_first R (x ∷ []) ys chain = (tt, tt)
chained_first R (x ∷ y ∷ zs) ys chain = (chain.0, chained_first R (y ∷ zs) ys chain.1)

pub chained_second : {X : Type 0} (R : X → X → Type 0) (xs ys : List X) → Chained R (xs ++ ys) → Chained R ys
chained_second R [] ys chain = chain
chained_second R (x ∷ xs) ys chain = chained_second R xs ys chain.1

pub chained_joined : {X : Type 0} (R : X → X → Type 0) (xs ys : List X) → Chained R xs → Chained R ys → LastHas (λ x. FirstHas (R x) ys) xs
    → Chained R (xs ++ ys)
chained_joined R [] ys first second seam = second
chained_joined R (x ∷ []) ys first second seam = (seam, second)
chained_joined R (x ∷ y ∷ zs) ys first second seam = (first.0, chained_joined R (y ∷ zs) ys first.1 second seam)

pub last_has : {X : Type 0} (P : X → Type 0) (xs : List X) (x : X) → P x → LastHas P (xs ++ x ∷ [])
last_has P [] x h = h
last_has P (y ∷ []) x h = h
last_has P (y ∷ z ∷ zs) x h = last_has P (z ∷ zs) x h

-- between two chains stand no new elements ..
pub chained_directly : {X : Type 0} (R : X → X → Type 0) (lower new upper : List X) → IsTrue (length new == 0)
    → LastHas (λ x. FirstHas (R x) upper) lower → Chained R lower → Chained R upper → Chained R (lower ++ (new ++ upper))
chained_directly R lower [] upper none seam first second = chained_joined R lower upper first second seam
chained_directly R lower (x ∷ xs) upper none seam first second = let e = eqb-true (suc (length xs)) 0 none in absurd (omega (arith, e))

-- .. or some, which are a chain too
pub chained_over : {X : Type 0} (R : X → X → Type 0) (lower new upper : List X) → (length new == 0) ≡ false
    → LastHas (λ x. FirstHas (R x) new) lower → Chained R new → LastHas (λ x. FirstHas (R x) upper) new → Chained R lower → Chained R upper
    → Chained R (lower ++ (new ++ upper))
chained_over R lower [] upper some under middle over first second = absurd cc
chained_over R lower (x ∷ xs) upper some under middle over first second =
    chained_joined R lower ((x ∷ xs) ++ upper) first (chained_joined R (x ∷ xs) upper middle second over) under
