-- Closed boxes.
use Rattle.std.specs.Prelude.{◌&&◌, Bool, ℤ, int_le}
use Rattle.grid_exact.specs.Geometry.{Place}

abbrev pub is_from_to : ℤ → ℤ → ℤ → Bool
is_from_to low high z = int_le low z && int_le z high

-- p stands in the closed box from its lowest corner to its highest
abbrev pub is_in_box : Place → Place → Place → Bool
is_in_box low high p = is_from_to low.x high.x p.x && is_from_to low.y high.y p.y
