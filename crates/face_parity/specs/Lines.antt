-- The line of `faces` for a point: its number, its coordinates, and the polygons in which it lies.
use Rattle.std.specs.Prelude.{ℕ, Bool, true, false, List, [], ◌∷◌, ◌++◌, filter, length, get_or, codes}
use Rattle.std.specs.List.{range_with_len}
use Rattle.std.specs.Fmt.{decimal, signed_decimal}
use Rattle.grid_exact.specs.Geometry.{Place}
use Rattle.arc_map.specs.Map.{Map}
use Rattle.arc_map.specs.Arcs.{is_inside}
use Rattle.arc_map.specs.Arranged.{nowhere}

-- the polygons in which p lies, rising
abbrev pub faces_of : Map → Place → List ℕ
faces_of m p = filter (is_inside p m) (range_with_len 0 (length m.polygons))

-- the numbers, each after a space
abbrev pub spaced : List ℕ → List ℕ
spaced [] = []
spaced (n ∷ ns) = codes " " ++ decimal n ++ spaced ns

-- the same, or ` none` where there are none
abbrev pub numbers_text : List ℕ → List ℕ
numbers_text [] = codes " none"
numbers_text (n ∷ ns) = spaced (n ∷ ns)

-- what is still to be written where these numbers are left, and some number is written already or none is
abbrev pub still : Bool → List ℕ → List ℕ
still true ns = spaced ns
still false ns = numbers_text ns

unfoldable pub line_of : Map → ℕ → List ℕ
line_of m k = let p = get_or m.points k nowhere in codes "point " ++ decimal k ++ codes " " ++ signed_decimal p.x ++ codes " "
    ++ signed_decimal p.y ++ codes " in" ++ numbers_text (faces_of m p) ++ codes "\n"
