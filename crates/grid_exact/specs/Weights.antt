-- Weights of the two axes, and which points of a list they leave on the grid.
use Rattle.std.specs.Prelude.{◌≡◌, ℕ, ℤ, pos, ◌≤ℤ◌, List, All, take, slice_get, Some}
use Rattle.grid_exact.specs.Geometry.{Place, IsOnGrid}
use Rattle.grid_exact.specs.Near.{weighted}

-- how many units a step across and a step up count for
pub record Scales : Type 0 where
  pub x : ℤ
  pub y : ℤ

-- a number from 1 to 65536
pub record IsWeight (z : ℤ) : Type 0 where
  pub low : pos 1 ≤ℤ z
  pub high : z ≤ℤ pos 65536

-- the place stays on the grid where its coordinates are multiplied by the weights
abbrev pub StaysOnGrid : Scales → Place → Type 0
StaysOnGrid scales p = IsOnGrid (weighted scales.x scales.y p)

-- the place number k is the first of the list that does not stay on the grid
pub record IsFirstOff (scales : Scales) (places : List Place) (k : ℕ) : Type 0 where
  pub before : All (StaysOnGrid scales) (take k places)
  pub place : Place
  pub there : slice_get places k ≡ Some place
  pub off : ¬ (StaysOnGrid scales place)
