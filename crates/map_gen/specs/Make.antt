-- The text of a coverage of cells with wavy borders, and of towns close to them. The cells lie in rows and columns of
-- squares of 64 by 64. The arcs are the sides of the squares: first those that run across, row by row from the lowest
-- line, then those that run up, row by row. Each arc has 9 positions 8 apart; its 7 inner ones are shifted off the side, by
-- the shifts in order.
use Rattle.std.specs.Prelude.{ℕ, ◌+◌, ◌-◌, ◌*◌, ◌/◌, ◌%◌, ℤ, pos, negsuc, ◌+ℤ◌, false, nat_lt, ◌&&◌, if◌then◌else◌, List, [], ◌∷◌, ◌++◌}
use Rattle.std.specs.Prelude.{map, codes}
use Rattle.std.specs.List.{range_with_len}
use Rattle.std.specs.Fmt.{signed_decimal}
use Rattle.grid_exact.specs.Geometry.{Place}
use Rattle.topo_writer.specs.Texts.{list_text, position_text}
use Rattle.topo_writer.specs.ArcsText.{arc_text}
use Rattle.map_gen.specs.Shifts.{shift}

-- how many arcs run across, and how many there are in all
abbrev pub across_count : ℕ → ℕ → ℕ
across_count rows cols = (rows + 1) * cols

abbrev pub arc_count : ℕ → ℕ → ℕ
arc_count rows cols = across_count rows cols + rows * (cols + 1)

-- ---- arcs

-- how far position k of the arc is off its side: the ends, 0 and 8, are on it
abbrev pub offset : ℕ → ℕ → ℕ → ℤ
offset seed arc k = if nat_lt 0 k && nat_lt k 8 then shift seed (7 * arc + k) else pos 0

abbrev pub across_position : ℕ → ℕ → ℕ → ℕ → Place
across_position cols seed arc k = record { x = pos (64 * (arc % cols) + 8 * k); y = pos (64 * (arc / cols)) +ℤ offset seed arc k }

-- the same for the arc with this number among those that run up
abbrev pub up_position : ℕ → ℕ → ℕ → ℕ → ℕ → Place
up_position rows cols seed arc k = record {
  x = pos (64 * (arc % (cols + 1))) +ℤ offset seed (across_count rows cols + arc) k;
  y =
      pos (64 * (arc / (cols + 1)) + 8 * k);
}

abbrev pub position : ℕ → ℕ → ℕ → ℕ → ℕ → Place
position rows cols seed arc k = if nat_lt arc (across_count rows cols) then across_position cols seed arc k else up_position rows cols seed
    (arc - across_count rows cols) k

abbrev pub positions : ℕ → ℕ → ℕ → ℕ → List Place
positions rows cols seed arc = map (position rows cols seed arc) (range_with_len 0 9)

unfoldable pub wavy_text : ℕ → ℕ → ℕ → ℕ → List ℕ
wavy_text rows cols seed arc = arc_text false (positions rows cols seed arc)

-- ---- towns: one for each arc that runs across, 1 above its middle

abbrev pub town : ℕ → ℕ → ℕ → ℕ → Place
town rows cols seed arc = let middle = position rows cols seed arc 4 in record { x = middle.x; y = middle.y +ℤ pos 1 }

unfoldable pub town_text : ℕ → ℕ → ℕ → ℕ → List ℕ
town_text rows cols seed arc = position_text (town rows cols seed arc)

-- ---- cells

-- the ring of a cell: the side below it, the one to its right, the one above it backwards, the one to its left backwards
-- the arc on its left
abbrev pub left_side : ℕ → ℕ → ℕ → ℕ
left_side rows cols cell = across_count rows cols + cell + cell / cols

unfoldable pub ring_text : ℕ → ℕ → ℕ → List ℕ
ring_text rows cols cell = list_text (signed_decimal (pos cell) ∷ signed_decimal (pos (left_side rows cols cell + 1))
    ∷ signed_decimal (negsuc (cell + cols)) ∷ signed_decimal (negsuc (left_side rows cols cell)) ∷ [])

unfoldable pub cell_text : ℕ → ℕ → ℕ → List ℕ
cell_text rows cols cell = codes "{\"type\":\"Polygon\",\"arcs\":[" ++ ring_text rows cols cell ++ codes "]}"

-- ---- the text

-- the list of the values with the texts f 0 to f (n - 1)
abbrev pub list_of : (ℕ → List ℕ) → ℕ → List ℕ
list_of f n = list_text (map f (range_with_len 0 n))

unfoldable pub made : ℕ → ℕ → ℕ → List ℕ
made rows cols seed =
    codes "{\"type\":\"Topology\",\"objects\":{\"cells\":{\"type\":\"GeometryCollection\",\"geometries\":"
    ++ list_of (cell_text rows cols) (rows * cols)
    ++ codes "},\"towns\":{\"type\":\"MultiPoint\",\"coordinates\":"
    ++ list_of (town_text rows cols seed) (across_count rows cols)
    ++ codes "}},\"arcs\":"
    ++ list_of (wavy_text rows cols seed) (arc_count rows cols)
    ++ codes "}"
