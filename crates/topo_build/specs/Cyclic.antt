-- Rings as cyclic lists.
use Rattle.std.specs.Prelude.{◌+◌, ◌-◌, ℕ, List, ◌++◌, drop, if◌then◌else◌, length, nat_lt, take}
use Rattle.std.specs.List.{dedup}
use Rattle.grid_exact.specs.Geometry.{Place}
use Rattle.arc_map.specs.Ends.{is_same}

-- without its last position, if it has two or more
abbrev pub opened : List Place → List Place
opened walk = if nat_lt 1 (length walk) then take (length walk - 1) walk else walk

-- a ring as it is written, which ends where it begins, as a cyclic list: of equal neighbours it has one, and the closing
-- position is left out
abbrev pub cyclic : List Place → List Place
cyclic ring = opened (dedup is_same ring)

-- the cyclic list from its place number `at` round to it again
abbrev pub closed_from : List Place → ℕ → List Place
closed_from ring at = drop at ring ++ take (at + 1) ring
