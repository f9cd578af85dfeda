-- The text of ranks.
use Rattle.std.specs.Prelude.{ℕ, ℤ, pos, List, ◌++◌, codes, map}
use Rattle.std.specs.Fmt.{signed_decimal}
use Rattle.topo_writer.specs.Texts.{list_text}

-- the list of these numbers in decimals
abbrev pub numbers_text : List ℕ → List ℕ
numbers_text numbers = list_text (map (λ n. signed_decimal (pos n)) numbers)

-- the bounds of the levels, and one list of ranks for each arc
unfoldable pub ranks_text : List ℤ → List (List ℕ) → List ℕ
ranks_text bounds ranks =
    codes "{\"bounds\":" ++ list_text (map signed_decimal bounds) ++ codes ",\"ranks\":" ++ list_text (map numbers_text ranks) ++ codes "}"
