-- Vertices in the order of their layers, and within a layer of their numbers.
use Rattle.std.specs.Prelude.{◌≡◌, ◌≢◌, ◌⊎◌, ℕ, ◌<◌, ◌≤◌, List, slice_index}

-- j comes before k: it is of a lesser layer, or less and of the same one
abbrev pub ComesBefore : List ℕ → ℕ → ℕ → Type 0
ComesBefore layers j k = (slice_index layers j < slice_index layers k) ⊎ ((slice_index layers j ≡ slice_index layers k) × (j < k))

-- the least vertex of a layer from one vertex on; past m where there is none up to m
pub record IsFirstIn (layers : List ℕ) (m from layer at : ℕ) : Type 0 where
  pub after : from ≤ at
  pub on : at ≤ m → slice_index layers at ≡ layer
  pub none : (k : ℕ) → from ≤ k → k ≤ m → k < at → slice_index layers k ≢ layer

-- of the vertices from the front one up to `reach` that are of this layer or a greater one, none comes before `at`, which is one of them
-- and comes no later than the front one
pub record IsForemost (layers : List ℕ) (front reach least at : ℕ) : Type 0 where
  pub after : front ≤ at
  pub within : at ≤ reach
  pub low : least ≤ slice_index layers at
  pub high : slice_index layers at ≤ slice_index layers front
  pub none : (k : ℕ) → front ≤ k → k ≤ reach → least ≤ slice_index layers k → ¬ (ComesBefore layers k at)

-- of the vertices from the front one up to `reach`, `at` comes next after the vertex, and no later than the front one
pub record IsFollowing (layers : List ℕ) (front reach vertex at : ℕ) : Type 0 where
  pub after : front ≤ at
  pub within : at ≤ reach
  pub high : slice_index layers at ≤ slice_index layers front
  pub rises : ComesBefore layers vertex at
  pub between : (k : ℕ) → front ≤ k → k ≤ reach → ComesBefore layers k at → ComesBefore layers k vertex ⊎ (k ≡ vertex)
