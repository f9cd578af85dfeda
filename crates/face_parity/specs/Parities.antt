-- Parities of counts.
use Rattle.std.specs.Prelude.{Bool, false, List, [], ◌∷◌}
use Rattle.grid_exact.specs.Walks.{differ}

-- whether an odd number of the elements pass the test
abbrev pub pass_oddly : {X : Type 0} → (X → Bool) → List X → Bool
pass_oddly test [] = false
pass_oddly test (x ∷ xs) = differ (test x) (pass_oddly test xs)
