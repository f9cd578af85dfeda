-- The coordinates of a chain with the weights of the axes, and which vertices are near a segment.
use Rattle.std.specs.Prelude.{◌≡◌, ◌+◌, ◌<◌, ℕ, ℤ, ◌*ℤ◌, List, length, get_or}
use Rattle.grid_exact.specs.Geometry.{Place, IsGridNumber, IsWithin}
use Rattle.grid_exact.specs.Weights.{Scales}
use Rattle.lane_kernels.specs.Places.{AreCoordinates, EachBetween, number_at, place_at}
use Rattle.arc_map.specs.Arranged.{nowhere}

-- the list has this coordinate of each of the first places, and all of them are on the grid
pub record IsColumn (part : Place → ℤ) (places : List Place) (numbers : List ℤ) (count : ℕ) : Type 0 where
  pub length : length numbers ≡ count
  pub same : (k : ℕ) → k < count → number_at numbers k ≡ part (get_or places k nowhere)
  pub on_grid : (k : ℕ) → k < count → IsGridNumber (number_at numbers k)

-- the lists are the coordinates of the places, each times the weight of its axis, and all are on the grid
pub record AreWeighed (weights : Scales) (places : List Place) (xs ys : List ℤ) : Type 0 where
  pub count : length xs ≡ length places
  pub coordinates : AreCoordinates xs ys
  pub across : (k : ℕ) → k < length places → number_at xs k ≡ weights.x *ℤ (get_or places k nowhere).x
  pub up : (k : ℕ) → k < length places → number_at ys k ≡ weights.y *ℤ (get_or places k nowhere).y

-- each place strictly between the numbers i and j is within the bound of the segment between these two
abbrev pub IsNearRun : List ℤ → List ℤ → ℤ → ℕ → ℕ → Type 0
IsNearRun xs ys bound i j = EachBetween (i + 1) j (λ p. IsWithin (place_at xs ys i) (place_at xs ys j) p bound) xs ys

-- the place number k is strictly between the numbers i and j, and not within the bound of the segment between these two
pub record IsFarBetween (xs ys : List ℤ) (bound : ℤ) (i j k : ℕ) : Type 0 where
  pub after : i < k
  pub before : k < j
  pub far : ¬ (IsWithin (place_at xs ys i) (place_at xs ys j) (place_at xs ys k) bound)
