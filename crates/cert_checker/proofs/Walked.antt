-- A walk over a list that is looked at element by element.
use Rattle.std.proofs.Common.{◌≡◌, ◌↔◌, List, [], ◌∷◌, sym, subst}
use Rattle.std.specs.Prelude.{All}
use Rattle.std.proofs.lemmas.List.Elements.{All-cons, All-head, All-nil, All-tail}

-- what is still to come decides for the whole
pub walk_more : {X : Type 0} (P : X → Type 0) (x : X) (coming left whole : List X) → left ≡ x ∷ coming → P x → (All P left ↔ All P whole)
    → All P coming ↔ All P whole
walk_more P x coming left whole is here says = (
  λ all. says.0 (subst (All P) (sym is) (All-cons P x coming here all)),
  λ all. All-tail P x coming (subst (All P) is (says.1 all)),
)

pub walk_fails : {X : Type 0} (P : X → Type 0) (x : X) (coming left whole : List X) → left ≡ x ∷ coming → (P x → ⊥)
    → (All P left ↔ All P whole) → All P whole → ⊥
walk_fails P x coming left whole is other says all = other (All-head P x coming (subst (All P) is (says.1 all)))

pub walk_done : {X : Type 0} (P : X → Type 0) (left whole : List X) → left ≡ [] → (All P left ↔ All P whole) → All P whole
walk_done P left whole none says = says.0 (subst (All P) (sym none) (All-nil P))

pub walk_start : {X : Type 0} (P : X → Type 0) (left whole : List X) → left ≡ whole → All P left ↔ All P whole
walk_start P left whole same = (λ all. subst (All P) same all, λ all. subst (All P) (sym same) all)
