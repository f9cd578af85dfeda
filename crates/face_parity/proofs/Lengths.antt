-- How long numbers are as text.
use Rattle.std.proofs.Common.{ℕ, ◌^◌, ◌<◌, ◌≤◌, length, arith}
use Rattle.std.specs.Prelude.{ℤ, pos, negsuc, decimal}
use Rattle.std.specs.Fmt.{signed_decimal}
use Rattle.std.proofs.lemmas.Fmt.{length_signed_le, length-decimal-le}
use Rattle.std.proofs.lemmas.Int.{ints}
use Rattle.grid_exact.specs.Geometry.{IsGridNumber}

pub short_number : (n : ℕ) → n < 2 ^ 20 → length (decimal n) ≤ 7
short_number n h = length-decimal-le 7 n (omega arith) (omega arith) (omega arith)

pub short_coordinate : (z : ℤ) → IsGridNumber z → length (signed_decimal z) ≤ 10
short_coordinate (pos n) h = let low : n ≤ 2 ^ 29 = omega (arith, ints, h.high) in length_signed_le 9 (pos n) (omega arith) (omega arith)
short_coordinate (negsuc n) h = let low : n ≤ 2 ^ 29 = omega (arith, ints, h.low) in
    length_signed_le 9 (negsuc n) (omega arith) (omega arith)
