-- The numbers that the generator draws, and the shifts that it takes from them.
use Rattle.std.specs.Prelude.{◌≡◌, ℕ, zero, suc, ◌+◌, ◌*◌, ◌%◌, ◌<◌, ℤ, pos, ◌-ℤ◌, List, length, Some, slice_get}

abbrev pub next_number : ℕ → ℕ
next_number s = (75 * s + 74) % 65537

-- the n-th number that is drawn from this seed, which is number 0
unfoldable pub number : ℕ → ℕ → ℕ
number seed zero = seed
number seed (suc n) = next_number (number seed n)

-- the n-th shift, from n = 1: from -7 to 7
abbrev pub shift : ℕ → ℕ → ℤ
shift seed n = pos (number seed n % 15) -ℤ pos 7

-- the list has the shifts from the first on
pub record AreShifts (seed : ℕ) (shifts : List ℤ) : Type 0 where
  pub each : (n : ℕ) → n < length shifts → slice_get shifts n ≡ Some (shift seed (n + 1))
