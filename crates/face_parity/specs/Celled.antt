-- Runs in the cells of the plane that they reach.
use Rattle.std.specs.Prelude.{◌≡◌, ◌≢◌, ◌⊎◌, ◌||◌, ◌+◌, ◌-◌, ◌*◌, ◌/◌, ◌^◌, ◌<◌, ◌≤◌, ◌==◌, nat_lt, ℕ, Bool, true, false, List, All}
use Rattle.std.specs.Prelude.{AllPairs, Contains, filter, length, get_or}
use Rattle.sweep_index.specs.Gathered.{AreGathered}
use Rattle.face_parity.specs.declared.bounds.Offset.{Offset}
use Rattle.face_parity.specs.declared.cells.Celled.{Celled}
use Rattle.face_parity.specs.declared.cells.Limits.{Limits}
use Rattle.face_parity.specs.declared.runs.Run.{Run}

-- the number of the cell in this row and column
abbrev pub cell_in : ℕ → ℕ → ℕ
cell_in row column = row * 2 ^ 32 + column

-- the number of the cell of a place
abbrev pub cell_at : ℕ → ℕ → Offset → ℕ
cell_at width height at = cell_in (at.y / height) (at.x / width)

-- the runs in one cell
abbrev pub in_cell : ℕ → List Celled → List Celled
in_cell cell celled = filter (λ c. c.cell == cell) celled

-- the run with this number
abbrev pub run_at : List Run → ℕ → Run
run_at runs number = get_or runs number (record {
  arc = 0;
  from = 0;
  to = 0;
  floor = 0;
  bounds =
      record { west = 0; east = 0; south = 0; north = 0 };
  ends = record { first = 0; last = 0 };
})

-- the box of the run goes east and up from its floor, and not past the grid
pub record HasBox (r : Run) : Type 0 where
  pub across : r.bounds.west ≤ r.bounds.east
  pub up : r.floor ≤ r.bounds.north
  pub small : (r.bounds.east ≤ 2 ^ 30) × (r.bounds.north ≤ 2 ^ 30)

-- whether the box of the run, down to its floor, passes one of the limits
abbrev pub is_wide : Limits → Run → Bool
is_wide l r = nat_lt l.across (r.bounds.east - r.bounds.west) || nat_lt l.up (r.bounds.north - r.floor)

-- these are the numbers of the wide ones of the first runs, so many, each once
pub record AreWideTo (runs : List Run) (limits : Limits) (count : ℕ) (wide : List ℕ) : Type 0 where
  pub only : All (λ n. (n < count) × (is_wide limits (run_at runs n) ≡ true)) wide
  pub all : (n : ℕ) → n < count → is_wide limits (run_at runs n) ≡ true → Contains wide n
  pub once : AllPairs (λ i j. i ≢ j) wide

-- a run in a row, by their numbers
pub record InRow : Type 0 where
  pub run : ℕ
  pub row : ℕ

-- the run, its row and its cell
abbrev pub spot_of : Celled → InRow × ℕ
spot_of c = (record { run = c.run; row = c.row }, c.cell)

-- the cell is one of the row
pub record IsOfRow (c : Celled) : Type 0 where
  pub low : c.row * 2 ^ 32 ≤ c.cell
  pub high : c.cell < c.row * 2 ^ 32 + 2 ^ 32

-- the run is not wide, and reaches the row, down to its floor
pub record DoesReach (runs : List Run) (limits : Limits) (height : ℕ) (k : InRow) : Type 0 where
  pub run : k.run < length runs
  pub narrow : is_wide limits (run_at runs k.run) ≡ false
  pub low : (run_at runs k.run).floor / height ≤ k.row
  pub high : k.row ≤ (run_at runs k.run).bounds.north / height

-- the first and the last cell that the run reaches in the row
abbrev pub first_cell : List Run → ℕ → InRow → ℕ
first_cell runs width k = cell_in k.row ((run_at runs k.run).bounds.west / width)

abbrev pub last_cell : List Run → ℕ → InRow → ℕ
last_cell runs width k = cell_in k.row ((run_at runs k.run).bounds.east / width)

-- the run has a smaller number than this one, or it is this one and the row is before this row
abbrev pub IsInRowBefore : ℕ → ℕ → InRow → Type 0
IsInRowBefore number row k = (k.run < number) ⊎ ((k.run ≡ number) × (k.row < row))

-- these are the runs that are not wide before this row of this one, in each cell that they reach, each once
abbrev pub AreCelledBefore : List Run → Limits → ℕ → ℕ → ℕ → ℕ → List Celled → Type 0
AreCelledBefore runs limits width height number row celled = AreGathered spot_of IsOfRow (λ k. DoesReach runs limits height k
    × IsInRowBefore number row k) (first_cell runs width) (last_cell runs width) celled

-- these are the runs that are not wide, in each cell that they reach, each once
abbrev pub AreCelled : List Run → Limits → ℕ → ℕ → List Celled → Type 0
AreCelled runs limits width height celled = AreGathered spot_of IsOfRow (DoesReach runs limits height) (first_cell runs width)
    (last_cell runs width) celled
