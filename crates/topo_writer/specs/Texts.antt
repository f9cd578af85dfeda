-- The JSON texts of lists and of positions, as they are written: shortest decimals, and no white space.
use Rattle.std.specs.Prelude.{ℕ, ℤ, pos, neg_ℤ, ◌≤ℤ◌, ◌^◌, List, [], ◌∷◌, ◌++◌, codes}
use Rattle.std.specs.Fmt.{signed_decimal}
use Rattle.grid_exact.specs.Geometry.{Place}

-- these texts, each behind a comma
abbrev pub behind_commas : List (List ℕ) → List ℕ
behind_commas [] = []
behind_commas (text ∷ texts) = codes "," ++ text ++ behind_commas texts

-- the list of the values with these texts
abbrev pub list_text : List (List ℕ) → List ℕ
list_text [] = codes "[]"
list_text (text ∷ texts) = codes "[" ++ text ++ behind_commas texts ++ codes "]"

abbrev pub position_text : Place → List ℕ
position_text p = codes "[" ++ signed_decimal p.x ++ codes "," ++ signed_decimal p.y ++ codes "]"

-- a number from -2^30 to 2^30, as the difference of two coordinates is
pub record IsDifference (z : ℤ) : Type 0 where
  pub low : neg_ℤ (pos (2 ^ 30)) ≤ℤ z
  pub high : z ≤ℤ pos (2 ^ 30)
