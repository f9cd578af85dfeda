-- Which values a tree holds, wherever it stands.
use Rattle.std.proofs.Common.{◌≡◌, ℤ, List, [], ◌∷◌}
use Rattle.json_scan.specs.declared.whole.Whole.TheVariants as whole
use Rattle.json_scan.specs.Tree.{Tree, NumberAt, ListAt, Trees, NoTrees, NextTree}
use Rattle.grid_exact.specs.Geometry.{Place}

abbrev pub IsNumberTree : ℤ → Tree → Type 0
IsNumberTree z (NumberAt e number) = number ≡ whole.Value z
IsNumberTree z _ = ⊥

abbrev pub IsListTree : (Trees → Type 0) → Tree → Type 0
IsListTree Q (ListAt e trees) = Q trees
IsListTree Q _ = ⊥

-- a tree for each of these, in order
abbrev pub AreTrees : {A : Type 0} → (A → Tree → Type 0) → List A → Trees → Type 0
AreTrees P [] NoTrees = Unit {0}
AreTrees P [] (NextTree t others) = ⊥
AreTrees P (x ∷ xs) NoTrees = ⊥
AreTrees P (x ∷ xs) (NextTree t others) = P x t × AreTrees P xs others

-- the list of two numbers
abbrev pub IsPairTree : Place → Tree → Type 0
IsPairTree p = IsListTree (AreTrees IsNumberTree (p.x ∷ p.y ∷ []))
