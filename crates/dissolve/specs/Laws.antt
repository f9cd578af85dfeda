-- The law of borders.
use Rattle.std.specs.Prelude.{◌≡◌, ℕ, ℤ, List}
use Rattle.arc_map.specs.Map.{Map}
use Rattle.dissolve.specs.Border.{IsBorder}

-- polygons have one border at most
abbrev pub BorderIsOne : Type 0
BorderIsOne = (m : Map) (polygons : List ℕ) (rings others : List (List ℤ)) →
    IsBorder m polygons rings → IsBorder m polygons others → rings ≡ others
