-- The places of a row, and which starts they keep open.
use Rattle.std.specs.Prelude.{◌≡◌, ◌+◌, ◌<◌, ◌≤◌, ℕ, ℤ, List, length, slice_index}
use Rattle.grid_exact.specs.Geometry.{Place}
use Rattle.chain_side.specs.Along.{vertex_at}
use Rattle.lane_kernels.specs.Places.{place_at, AreCoordinates}
use Rattle.side_wedge.specs.Flanks.{Flanks, KeepsSides}

-- these are the coordinates of the places in the row
pub record IsRow (b : Flanks) (row : ℕ) (xs ys : List ℤ) : Type 0 where
  pub coordinates : AreCoordinates xs ys
  pub whole : slice_index b.starts row + length xs ≡ slice_index b.starts (row + 1)
  pub places : (n : ℕ) → n < length xs → place_at xs ys n ≡ place_at b.xs b.ys (slice_index b.starts row + n)

-- what stands beside the edges from the number i to before the number j is on the same hand of the way from a to v
abbrev pub KeepsEdges : Flanks → ℕ → ℕ → Place → Place → Type 0
KeepsEdges b i j a v = (s : ℕ) → i ≤ s → s < j → KeepsSides b s a v

-- what stands beside the edges from the vertex number i to the vertex number j is on the same hand of the way from i to j
abbrev pub KeepsAll : Flanks → List Place → ℕ → ℕ → Type 0
KeepsAll b chain i j = KeepsEdges b i j (vertex_at chain i) (vertex_at chain j)
