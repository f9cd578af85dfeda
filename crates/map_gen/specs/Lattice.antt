-- The lattice of a coverage in memory.
use Rattle.std.specs.Prelude.{◌≡◌, ◌≤◌, ◌*◌, ℕ, ℤ, pos, neg_ℤ, ◌≤ℤ◌, vec_len}
use Rattle.map_gen.specs.Shifts.{AreShifts}
use Rattle.map_gen.specs.Make.{arc_count}
use Rattle.map_gen.specs.declared.lattice.Lattice.{Lattice}

-- it has so many rows and columns, and a shift of this seed for each inner position of its arcs
pub record IsLattice (rows cols seed : ℕ) (lattice : Lattice) : Type 0 where
  pub rows_is : lattice.rows ≡ rows
  pub cols_is : lattice.cols ≡ cols
  pub seed_is : lattice.seed ≡ seed
  pub some_rows : 1 ≤ rows
  pub few_rows : rows ≤ 100
  pub some_cols : 1 ≤ cols
  pub few_cols : cols ≤ 100
  pub shifts : AreShifts seed lattice.shifts.items
  pub count : vec_len lattice.shifts ≡ 7 * arc_count rows cols

-- a shift, or 0
pub record IsOffset (z : ℤ) : Type 0 where
  pub low : neg_ℤ (pos 7) ≤ℤ z
  pub high : z ≤ℤ pos 7

-- a coordinate of a coverage
pub record IsSmall (z : ℤ) : Type 0 where
  pub low : neg_ℤ (pos 7) ≤ℤ z
  pub high : z ≤ℤ pos 6500
