-- Paths from 0 to m over a set of pairs. A step is a pair (i, j) of the set with i < j.
use Rattle.std.specs.Prelude.{◌≡◌, ◌⊎◌, ℕ, ◌+◌, ◌<◌, ◌≤◌, List, [], ◌∷◌, length, slice_index}

-- from i, these vertices lead to m, each by a step from the one before it
abbrev pub LeadsTo : (ℕ → ℕ → Type 0) → ℕ → ℕ → List ℕ → Type 0
LeadsTo Pair m i [] = i ≡ m
LeadsTo Pair m i (next ∷ rest) = (i < next) × Pair i next × LeadsTo Pair m next rest

-- a path: 0, and what leads from it to m
abbrev pub IsPath : (ℕ → ℕ → Type 0) → ℕ → List ℕ → Type 0
IsPath Pair m [] = ⊥
IsPath Pair m (start ∷ rest) = (start ≡ 0) × LeadsTo Pair m 0 rest

-- some way from i to m has n steps, and none has fewer
pub record IsLeastSteps (Pair : ℕ → ℕ → Type 0) (m i n : ℕ) : Type 0 where
  pub some : (rest : List ℕ) × LeadsTo Pair m i rest × (length rest ≡ n)
  pub least : (rest : List ℕ) → LeadsTo Pair m i rest → n ≤ length rest

-- for each vertex the least number of steps from it to m
pub record AreLayers (Pair : ℕ → ℕ → Type 0) (m : ℕ) (layers : List ℕ) : Type 0 where
  pub count : length layers ≡ m + 1
  pub each : (i : ℕ) → i ≤ m → IsLeastSteps Pair m i (slice_index layers i)

-- Where two lists first differ, this one ends or has the lesser number.
abbrev pub Precedes : List ℕ → List ℕ → Type 0
Precedes [] others = Unit {0}
Precedes (x ∷ xs) [] = ⊥
Precedes (x ∷ xs) (y ∷ ys) = (x < y) ⊎ ((x ≡ y) × Precedes xs ys)

-- a path with fewest entries, and of those the lexicographically least
pub record IsBestPath (Pair : ℕ → ℕ → Type 0) (m : ℕ) (path : List ℕ) : Type 0 where
  pub leads : IsPath Pair m path
  pub fewest : (other : List ℕ) → IsPath Pair m other → length path ≤ length other
  pub first : (other : List ℕ) → IsPath Pair m other → length other ≡ length path → Precedes path other

-- numbers for the vertices that certify a path of r steps: they begin with r and end with 0, and no step
-- falls by more than 1
pub record Certifies (Pair : ℕ → ℕ → Type 0) (m r : ℕ) (layers : List ℕ) : Type 0 where
  pub count : length layers ≡ m + 1
  pub last : slice_index layers m ≡ 0
  pub start : slice_index layers 0 ≡ r
  pub falls : (i j : ℕ) → i < j → j ≤ m → slice_index layers j + 1 < slice_index layers i → ¬ (Pair i j)
