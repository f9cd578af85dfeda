-- How rings pass their positions, and the positions at which they are cut.
use Rattle.std.specs.Prelude.{◌≡◌, ◌≢◌, ℕ, suc, List, [], ◌∷◌, ◌++◌, All, AllPairs, take}
use Rattle.grid_exact.specs.Geometry.{Place}
use Rattle.grid_exact.specs.Segments.{SameEnds}

-- an occurrence of a position in a ring of two or more positions: the number of the ring, and the neighbours there
pub record Turn : Type 0 where
  pub ring : ℕ
  pub before : Place
  pub at : Place
  pub after : Place

-- the turns of the ring with this number along a walk, at its inner positions
abbrev pub turns_along : ℕ → List Place → List Turn
turns_along ring [] = []
turns_along ring (a ∷ []) = []
turns_along ring (a ∷ p ∷ []) = []
turns_along ring (a ∷ p ∷ b ∷ ps) = record { ring = ring; before = a; at = p; after = b } ∷ turns_along ring (p ∷ b ∷ ps)

-- the turns of a cyclic list; one position has none
abbrev pub turns_round : ℕ → List Place → List Turn
turns_round ring c = turns_along ring (c ++ take 2 c)

-- the turns of the cyclic lists, the first of which has this number
abbrev pub turns_of : ℕ → List (List Place) → List Turn
turns_of ring [] = []
turns_of ring (c ∷ cs) = turns_round ring c ++ turns_of (suc ring) cs

-- the rings pass p in one way: its two neighbours differ, it stands once at most in each ring, and it has the same two
-- neighbours wherever it stands
pub record IsPlain (turns : List Turn) (p : Place) : Type 0 where
  pub apart : All (λ t. t.at ≡ p → t.before ≢ t.after) turns
  pub one_way : AllPairs (λ t u. t.at ≡ p → u.at ≡ p → (t.ring ≢ u.ring) × SameEnds t.before t.after u.before u.after) turns

-- p is a junction: the rings do not pass it in one way
abbrev pub IsJunction : List Turn → Place → Type 0
IsJunction turns p = ¬ (IsPlain turns p)
