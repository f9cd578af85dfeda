-- The entries of a list in its text.
use Rattle.std.specs.Prelude.{ℕ, zero, suc, List, [], codes}

-- what stands before the entry with this number
abbrev pub comma : ℕ → List ℕ
comma zero = []
comma (suc k) = codes ","
