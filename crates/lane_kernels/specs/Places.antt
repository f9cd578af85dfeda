-- Two lists of coordinates as a list of places.
use Rattle.std.specs.Prelude.{◌≡◌, ℕ, ◌<◌, ◌≤◌, ℤ, pos, List, length, slice_index_or}
use Rattle.grid_exact.specs.Geometry.{Place, IsGridNumber}

-- the number at k, and 0 past the end
abbrev pub number_at : List ℤ → ℕ → ℤ
number_at numbers k = slice_index_or numbers k (pos 0)

-- the place number k
abbrev pub place_at : List ℤ → List ℤ → ℕ → Place
place_at xs ys k = record { x = number_at xs k; y = number_at ys k }

-- the places from the number `from` to before the number `to` have the property
abbrev pub EachBetween : ℕ → ℕ → (Place → Type 0) → List ℤ → List ℤ → Type 0
EachBetween from to P xs ys = (k : ℕ) → from ≤ k → k < to → P (place_at xs ys k)

-- each place of the lists has the property
abbrev pub EachPlace : (Place → Type 0) → List ℤ → List ℤ → Type 0
EachPlace P xs ys = EachBetween 0 (length xs) P xs ys

-- the lists are as long as one another, and each number is on the grid
pub record AreCoordinates (xs ys : List ℤ) : Type 0 where
  pub same_length : length xs ≡ length ys
  pub x_on_grid : (k : ℕ) → k < length xs → IsGridNumber (number_at xs k)
  pub y_on_grid : (k : ℕ) → k < length xs → IsGridNumber (number_at ys k)

-- of the places from the number `from` to before the number `to`, the place number k is the first without the property
pub record IsFirstOff (from to : ℕ) (P : Place → Type 0) (xs ys : List ℤ) (k : ℕ) : Type 0 where
  pub low : from ≤ k
  pub high : k < to
  pub off : ¬ (P (place_at xs ys k))
  pub before : EachBetween from k P xs ys
