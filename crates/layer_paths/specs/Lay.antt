-- The layers of vertices, and the next vertex of each, as a search for a path leaves them.
use Rattle.std.specs.Prelude.{◌≡◌, ℕ, ◌<◌, ◌≤◌, List, [], ◌∷◌, length, slice_index}
use Rattle.grid_exact.specs.Paths.{IsLeastSteps}
use Rattle.layer_paths.specs.Steps.{IsNext}

-- the last vertex, the front one, and by their numbers the layers and the next vertices of those between
pub record Lay : Type 0 where
  pub last : ℕ
  pub front : ℕ
  pub layers : List ℕ
  pub nexts : List ℕ

-- over a set of pairs with the last vertex m: each vertex from the front one on has the least number of steps to m as its layer, and as its
-- next vertex the least that is one step nearer
pub record IsLayered (Pair : ℕ → ℕ → Type 0) (m : ℕ) (l : Lay) : Type 0 where
  pub last : l.last ≡ m
  pub room : m < length l.layers
  pub next_room : m < length l.nexts
  pub layer : (k : ℕ) → l.front ≤ k → k ≤ m → IsLeastSteps Pair m k (slice_index l.layers k)
  pub next : (k : ℕ) → l.front ≤ k → k < m → IsNext Pair m k (slice_index l.nexts k) l.layers

-- each vertex before m has a later one up to m as its next
abbrev pub GoesOn : List ℕ → ℕ → Type 0
GoesOn nexts m = (k : ℕ) → k < m → (k < slice_index nexts k) × (slice_index nexts k ≤ m)

-- from a vertex, these lead to m, each the next of the one before it
abbrev pub Follows : List ℕ → ℕ → ℕ → List ℕ → Type 0
Follows nexts m at [] = at ≡ m
Follows nexts m at (k ∷ rest) = (at < m) × (k ≡ slice_index nexts at) × Follows nexts m k rest

-- 0, and what leads from it to m
abbrev pub IsTrail : List ℕ → ℕ → List ℕ → Type 0
IsTrail nexts m [] = ⊥
IsTrail nexts m (start ∷ rest) = (start ≡ 0) × Follows nexts m 0 rest

-- one step, from 0 to 1
pub record IsSingle (l : Lay) : Type 0 where
  pub last : l.last ≡ 1
  pub front : l.front ≡ 0
  pub room : 1 < length l.layers
  pub next_room : 1 < length l.nexts
  pub first_layer : slice_index l.layers 0 ≡ 1
  pub last_layer : slice_index l.layers 1 ≡ 0
  pub first_next : slice_index l.nexts 0 ≡ 1
