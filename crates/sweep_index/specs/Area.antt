-- The corners of a box.
use Rattle.grid_exact.specs.Geometry.{Place}
use Rattle.sweep_index.specs.declared.area.Area.{Area}

abbrev pub lowest : Area → Place
lowest a = record { x = a.west; y = a.south }

abbrev pub highest : Area → Place
highest a = record { x = a.east; y = a.north }
