-- Square cells over the plane.
use Rattle.std.specs.Prelude.{◌+◌, ◌-◌, ◌*◌, ◌/◌, ◌^◌, min, ℕ, ℤ}
use Rattle.grid_exact.specs.Geometry.{Place}
use Rattle.sweep_index.specs.Offsets.{offset_of}
use Rattle.sweep_index.specs.declared.grid.Grid.{Grid}

abbrev pub column_of : Grid → ℤ → ℕ
column_of g x = min ((offset_of x - g.west) / 2 ^ g.shift) (g.columns - 1)

abbrev pub row_of : Grid → ℤ → ℕ
row_of g y = min ((offset_of y - g.south) / 2 ^ g.shift) (g.rows - 1)

-- the number of the cell of a place, row by row
abbrev pub cell_of : Grid → Place → ℕ
cell_of g p = row_of g p.y * g.columns + column_of g p.x
