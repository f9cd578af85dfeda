-- A run of a chain as it is passed about: its first place, and those after it; and runs by the numbers of their ends.
use Rattle.std.specs.Prelude.{◌+◌, ◌-◌, ◌≤ℤ◌, ℕ, ℤ, List, All, get_or, length, slice_index_or, take}
use Rattle.std.specs.List.{between}
use Rattle.grid_exact.specs.Geometry.{Place, IsWithin}
use Rattle.arc_map.specs.Arranged.{nowhere}

-- the place where the run ends
abbrev pub run_end : Place → List Place → Place
run_end first rest = slice_index_or rest (length rest - 1) first

-- the places between its ends
abbrev pub run_inner : List Place → List Place
run_inner rest = take (length rest - 1) rest

-- the place number i of a chain
abbrev pub place_at : List Place → ℕ → Place
place_at places i = get_or places i nowhere

-- the places between those number i and j are within the bound of the segment between the two
abbrev pub IsRunWithin : ℤ → List Place → ℕ → ℕ → Type 0
IsRunWithin bound places i j = All (λ p. IsWithin (place_at places i) (place_at places j) p bound) (between (i + 1) j places)

-- q is no further to the right and no further up than p
pub record IsLowerLeft (q p : Place) : Type 0 where
  pub across : q.x ≤ℤ p.x
  pub up : q.y ≤ℤ p.y

-- the place is in the closed box from its corner `low` to its corner `high`
pub record IsInBox (low high p : Place) : Type 0 where
  pub from_low : IsLowerLeft low p
  pub to_high : IsLowerLeft p high
