-- The ends of an arc.
use Rattle.std.specs.Prelude.{◌+◌, ◌==◌, ◌||◌, ℕ, Bool}

-- whether the position is the first or the last of an arc of so many positions
abbrev pub is_end_of : ℕ → ℕ → Bool
is_end_of at count = (at == 0) || (at + 1 == count)
