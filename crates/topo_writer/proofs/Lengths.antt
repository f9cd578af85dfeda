-- How long the texts of numbers and of positions are.
use Rattle.std.proofs.Common.{◌^◌, ◌≤◌, length, arith}
use Rattle.std.specs.Prelude.{ℤ, pos, negsuc}
use Rattle.std.specs.Fmt.{signed_decimal}
use Rattle.std.proofs.lemmas.Fmt.{length_signed_le}
use Rattle.std.proofs.lemmas.Int.{ints}
use Rattle.topo_writer.specs.Texts.{IsDifference}

pub short_difference : (z : ℤ) → IsDifference z → length (signed_decimal z) ≤ 11
short_difference (pos n) h = let low : n ≤ 2 ^ 30 = omega (arith, ints, h.high) in length_signed_le 10 (pos n) (omega arith) (omega arith)
short_difference (negsuc n) h = let low : n ≤ 2 ^ 30 = omega (arith, ints, h.low) in
    length_signed_le 10 (negsuc n) (omega arith) (omega arith)
