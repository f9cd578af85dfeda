-- Whether a list of arcs has an arc, as a test and as a fact.
use Rattle.std.proofs.Common.{◌≡◌, ◌↔◌, ◌<◌, ℕ, zero, suc, Bool, true, false, not, IsTrue, List, [], ◌∷◌, length, get_or, refl, ap, sym}
use Rattle.std.proofs.Common.{arith, inl, inr}
use Rattle.std.specs.Prelude.{◌==◌, Contains}
use Rattle.std.specs.List.{list_any}
use Rattle.std.proofs.lemmas.Bool.{eq-eqb, eqb-true, false≢true, or_cases, or_left, or_right}

abbrev pub is_held : List ℕ → ℕ → Bool
is_held held arc = list_any (λ h. h == arc) held

any_at : (held : List ℕ) (arc k : ℕ) → k < length held → get_or held k arc ≡ arc → is_held held arc ≡ true
any_at [] arc k within e = absurd (omega (arith, within))
any_at (x ∷ xs) arc zero within e = or_left (x == arc) (is_held xs arc) (eq-eqb x arc e)
any_at (x ∷ xs) arc (suc k) within e = or_right (x == arc) (is_held xs arc) (any_at xs arc k (omega (arith, within)) e)

pub held_from_contains : (held : List ℕ) (arc : ℕ) → Contains held arc → is_held held arc ≡ true
held_from_contains held arc has = any_at held arc has.0 has.1 has.2

pub contains_from_held : (held : List ℕ) (arc : ℕ) → is_held held arc ≡ true → Contains held arc
contains_from_held [] arc e = absurd (false≢true e)
contains_from_held (x ∷ xs) arc e = elim (or_cases (x == arc) (is_held xs arc) e) [
  | inl here ↦ (0, omega arith, eqb-true x arc here)
  | inr later ↦ let h = contains_from_held xs arc later in (suc h.0, omega (arith, h.1), h.2)
]

same_truth : (r s : Bool) → (r ≡ true → s ≡ true) → (s ≡ true → r ≡ true) → r ≡ s
same_truth true true f g = refl
same_truth true false f g = sym (f refl)
same_truth false true f g = g refl
same_truth false false f g = refl

-- what the search in the list says
pub held_told : (held : List ℕ) (arc : ℕ) (r : Bool) → (IsTrue r ↔ Contains held arc) → not r ≡ not (is_held held arc)
held_told held arc r says = ap not (same_truth r (is_held held arc) (λ e. held_from_contains held arc (says.0 e)) (λ e.
    says.1 (contains_from_held held arc e)))
