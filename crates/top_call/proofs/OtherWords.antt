-- Words of the wrong number are no form.
use Rattle.std.proofs.Common.{◌≡◌, ℕ, ◌<◌, ◌≤◌, List, [], ◌∷◌, None, Bool, length, refl, arith}
use Rattle.std.specs.Prelude.{◌⊎◌}
use Rattle.std.proofs.Common.{inl, inr}
use Rattle.top_call.specs.declared.words.Task.{Task}
use Rattle.top_call.specs.Words.{demo_form, weighed_form}

pub demo_other : (words : List (List ℕ)) → (length words < 4) ⊎ (5 ≤ length words) → None ≡ demo_form words
demo_other [] h = refl
demo_other (a ∷ []) h = refl
demo_other (a ∷ b ∷ []) h = refl
demo_other (a ∷ b ∷ c ∷ []) h = refl
demo_other (a ∷ b ∷ c ∷ d ∷ []) h = absurd (elim h [ inl few ↦ omega arith | inr many ↦ omega arith ])
demo_other (a ∷ b ∷ c ∷ d ∷ e ∷ words) h = refl

pub weighed_other : (task : Task) (hold : Bool) (words : List (List ℕ)) → length words < 2 → None ≡ weighed_form task hold words
weighed_other task hold [] few = refl
weighed_other task hold (a ∷ []) few = refl
weighed_other task hold (a ∷ b ∷ words) few = absurd (omega arith)
