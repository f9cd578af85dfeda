-- Coordinates, counted from the least one.
use Rattle.std.specs.Prelude.{◌+◌, ◌-◌, ◌^◌, ℕ, suc, ℤ, pos, negsuc}

-- how far a coordinate is above the least one
abbrev pub offset_of : ℤ → ℕ
offset_of (pos n) = 2 ^ 29 + n
offset_of (negsuc n) = 2 ^ 29 - suc n
