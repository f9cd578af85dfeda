-- A walk over a list that does something about each element of a kind: so far, each such element is still to come or is done.
use Rattle.std.proofs.Common.{◌≡◌, ◌⊎◌, inl, inr, zero, suc, List, [], ◌∷◌, sym, subst, arith}
use Rattle.std.specs.Prelude.{Contains, Option, Some, None}
use Rattle.arrangement_check.specs.Least.{IsNew}

pub record Walked {X : Type 0} (Hits Done : X → Type 0) (all rest : List X) : Type 0 where
  pub each : (x : X) → Contains all x → Hits x → Contains rest x ⊎ Done x

contains_cases : {X : Type 0} (x : X) (xs : List X) (y : X) → Contains (x ∷ xs) y → (x ≡ y) ⊎ Contains xs y
contains_cases x xs y (zero, within, is) = inl is
contains_cases x xs y (suc k, within, is) = inr (k, omega (arith, within), is)

contains_none : {X : Type 0} (y : X) → ¬ (Contains [] y)
contains_none y (k, within, is) = omega (arith, within)

pub walk_start : {X : Type 0} (Hits Done : X → Type 0) (all rest : List X) → rest ≡ all → Walked Hits Done all rest
walk_start Hits Done all rest is = record { each = λ x member _. inl (subst (λ xs. Contains xs x) (sym is) member) }

walk_step_by : {X : Type 0} (Hits Before After : X → Type 0) (x : X) (rest : List X) → (Hits x → After x) → (y : X) → (Before y → After y)
    → Hits y → (Contains (x ∷ rest) y ⊎ Before y) → Contains rest y ⊎ After y
walk_step_by Hits Before After x rest here y keeps hit (inr done) = inr (keeps done)
walk_step_by Hits Before After x rest here y keeps hit (inl member) = elim (contains_cases x rest y member) [
  | inl same ↦ inr (subst After same (here (subst Hits (sym same) hit)))
  | inr later ↦ inl later
]

-- what is done of the element at hand, and what was done, stays done
pub walk_step : {X : Type 0} (Hits Before After : X → Type 0) (all left rest : List X) (x : X) → left ≡ x ∷ rest
    → Walked Hits Before all left → (Hits x → After x) → ((y : X) → Before y → After y) → Walked Hits After all rest
walk_step Hits Before After all left rest x is walked here keeps = record {
  each = λ y member hit. walk_step_by Hits Before After x rest here y (keeps y) hit
      (subst (λ xs. Contains xs y ⊎ Before y) is (walked.each y member hit));
}

walk_end_by : {X : Type 0} (y : X) (P : Type 0) → (Contains [] y ⊎ P) → P
walk_end_by y P (inl member) = absurd (contains_none y member)
walk_end_by y P (inr done) = done

pub walk_end : {X : Type 0} (Hits Done : X → Type 0) (all left : List X) → left ≡ [] → Walked Hits Done all left → (x : X) → Contains all x
    → Hits x → Done x
walk_end Hits Done all left is walked x member hit = walk_end_by x (Done x)
    (subst (λ xs. Contains xs x ⊎ Done x) is (walked.each x member hit))

-- ---- the least element so far

-- y is not less than the least one so far, and there is one
abbrev pub IsNotBelow : {X : Type 0} → (X → X → Type 0) → Option X → X → Type 0
IsNotBelow IsLess None y = ⊥
IsNotBelow IsLess (Some x) y = ¬ (IsLess y x)

pub not_below_newer : {X : Type 0} (IsLess : X → X → Type 0) → ((a b c : X) → IsLess a b → IsLess b c → IsLess a c)
    → (x : X) (least : Option X) → IsNew IsLess x least → (y : X) → IsNotBelow IsLess least y → IsNotBelow IsLess (Some x) y
not_below_newer IsLess trans x None new y below = absurd below
not_below_newer IsLess trans x (Some z) new y below = λ less. below (trans y x z less new)

pub not_below_older : {X : Type 0} (IsLess : X → X → Type 0) (P : Type 0) (x : X) (least : Option X) → ¬ (IsNew IsLess x least × P) → P
    → IsNotBelow IsLess least x
not_below_older IsLess P x None old hit = old (tt, hit)
not_below_older IsLess P x (Some z) old hit = λ less. old (less, hit)
