-- One step more in the loops of the plain tests.
use Rattle.std.proofs.Common.{◌≡◌, ◌∙◌, ◌↔◌, ◌+◌, ◌-◌, ◌<◌, ◌≤◌, ℕ, Bool, true, false, not, IsTrue, List, length, get_or, sym, ap, subst}
use Rattle.std.proofs.Common.{arith, inl, inr, refl}
use Rattle.std.specs.Prelude.{All}
use Rattle.std.proofs.lemmas.Bool.{cases_eq, false≢true, false_from_ne_true, not_from_false}
use Rattle.std.proofs.lemmas.List.{get_or_default}
use Rattle.grid_exact.specs.Geometry.{Place}
use Rattle.grid_exact.specs.Segments.{SameEnds}
use Rattle.arc_map.specs.Arranged.{nowhere}
use Rattle.arc_map.specs.Allowed.{IsConsistent}
use Rattle.cert_checker.specs.Open.{Joins, LetsRun}

-- an answer no, where the fact does not hold
pub says_no : {P : Type 0} → (P → ⊥) → IsTrue false ↔ P
says_no other = (λ t. absurd (false≢true t), λ p. absurd (other p))

-- an answer yes, where the fact holds
pub says_yes : {P : Type 0} → P → IsTrue true ↔ P
says_yes p = (λ t. p, λ q. refl)

-- what a test that says no rules out
pub ruled_out : {P : Type 0} (r : Bool) → (IsTrue r ↔ P) → not r ≡ true → P → ⊥
ruled_out true says e p = cc
ruled_out false says e p = false≢true (says.1 p)

-- not all elements have a property that this one has not
pub fails_at : {X : Type 0} (P : X → Type 0) (xs : List X) (k : ℕ) (x : X) → k < length xs → x ≡ get_or xs k x → (P x → ⊥) → All P xs → ⊥
fails_at P xs k x within read other all = other (subst P (sym read) (all k x within))

-- ---- edges of a list of places

abbrev pub SameEndsAt : Place → Place → List Place → ℕ → Type 0
SameEndsAt v w ps s = SameEnds v w (get_or ps s nowhere) (get_or ps (s + 1) nowhere)

-- the edge that is looked at, by the place of its end
same_ends_at : (v w a b : Place) (ps : List Place) (at s : ℕ) → s + 1 ≡ at → at < length ps → a ≡ get_or ps (at - 1) a → b ≡ get_or ps at b
    → SameEnds v w a b ↔ SameEndsAt v w ps s
same_ends_at v w a b ps at s next within first second =
    let place : at - 1 ≡ s = omega arith in
    let before : s < length ps = omega arith in
    let e : a ≡ get_or ps s nowhere = first ∙ ap (λ n. get_or ps n a) place ∙ get_or_default ps s a nowhere before in
    let f : b ≡ get_or ps (s + 1) nowhere = second ∙ get_or_default ps at b nowhere within ∙ ap (λ n. get_or ps n nowhere) (sym next) in (
      λ h. subst (λ q. SameEnds v w (get_or ps s nowhere) q) f (subst (λ q. SameEnds v w q b) e h),
      λ h.
          subst (λ q. SameEnds v w q b) (sym e) (subst (λ q. SameEnds v w (get_or ps s nowhere) q) (sym f) h),
    )

pub joins_found : (v w a b : Place) (ps : List Place) (at : ℕ) → 1 ≤ at → at < length ps → a ≡ get_or ps (at - 1) a → b ≡ get_or ps at b
    → SameEnds v w a b → Joins v w ps
joins_found v w a b ps at some within first second ends =
    let next : (at - 1) + 1 ≡ at = omega arith in
    record { number = at - 1; within = omega arith; ends = (same_ends_at v w a b ps at (at - 1) next within first second).0 ends }

pub joins_more : (v w a b : Place) (ps : List Place) (at : ℕ) → 1 ≤ at → at < length ps → a ≡ get_or ps (at - 1) a → b ≡ get_or ps at b
    → (SameEnds v w a b → ⊥) → ((s : ℕ) → s + 1 < at → SameEndsAt v w ps s → ⊥) → (s : ℕ) → s + 1 < at + 1 → SameEndsAt v w ps s → ⊥
joins_more v w a b ps at some within first second other before s below ends = elim (cases_eq (s + 1) at) [
  | inl here ↦ other ((same_ends_at v w a b ps at s here within first second).1 ends)
  | inr there ↦ before s (omega (arith, there)) ends
]

pub joins_none : (v w : Place) (ps : List Place) (at : ℕ) → length ps ≤ at → ((s : ℕ) → s + 1 < at → SameEndsAt v w ps s → ⊥) → Joins v w ps
    → ⊥
joins_none v w ps at whole before j = before j.number (omega (arith, j.within)) j.ends

-- ---- chains

pub lets_by : (v : Place) (skipped : List Place) (last w : Place) (ps : List Place) (r : Bool) → last ≡ w
    → All (IsConsistent v w skipped) ps → (IsTrue r ↔ Joins v last ps) → IsTrue (not r) ↔ LetsRun v skipped w ps
lets_by v skipped last w ps r end keeps says = (
  λ t. record { vertices = keeps; single = λ j. ruled_out r says t (subst (λ q. Joins v q ps) (sym end) j) },
  λ h. not_from_false r (false_from_ne_true r (λ t. h.single (subst (λ q. Joins v q ps) end (says.0 t)))),
)

-- what holds for each number but one holds up to one more
pub others_more : (P : ℕ → Type 0) (k n : ℕ) → ((m : ℕ) → m < n → (m ≡ k → ⊥) → P m) → ((n ≡ k → ⊥) → P n) → (m : ℕ) → m < n + 1
    → (m ≡ k → ⊥) → P m
others_more P k n before here m below other = elim (cases_eq m n) [
  | inl e ↦ subst P (sym e) (here (λ f. other (e ∙ f)))
  | inr e ↦ before m (omega (arith, e, below)) other
]
