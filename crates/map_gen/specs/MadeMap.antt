-- The map of the made coverage.
use Rattle.std.specs.Prelude.{ℕ, ◌+◌, ◌*◌, false, List, [], ◌∷◌, map}
use Rattle.std.specs.List.{range_with_len}
use Rattle.arc_map.specs.Map.{Map}
use Rattle.map_gen.specs.Make.{across_count, arc_count, left_side, positions, town}

-- the map of the made coverage: the wavy sides of the cells, the towns, and for each cell the four sides of its ring
abbrev pub ring_of : ℕ → ℕ → ℕ → List ℕ
ring_of rows cols cell = cell ∷ (left_side rows cols cell + 1) ∷ (cell + cols) ∷ left_side rows cols cell ∷ []

unfoldable pub made_map : ℕ → ℕ → ℕ → Map
made_map rows cols seed = record {
  arcs = map (positions rows cols seed) (range_with_len 0 (arc_count rows cols));
  points = map (town rows cols seed) (range_with_len 0 (across_count rows cols));
  polygons = map (ring_of rows cols) (range_with_len 0 (rows * cols));
  coded = false;
}
