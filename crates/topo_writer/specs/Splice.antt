-- A text in which a part is replaced.
use Rattle.std.specs.Prelude.{ℕ, List, ◌++◌, take, drop}

-- the text before the place `start`, then the part, then the text from the place `end` on
abbrev pub spliced : List ℕ → ℕ → ℕ → List ℕ → List ℕ
spliced text start end part = take start text ++ part ++ drop end text
