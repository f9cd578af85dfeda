-- The numbers that the lanes hold fit 64 bits: coordinates, ways, products of two ways, sums of two such products.
use Rattle.std.proofs.Common.{◌^◌, ◌≤◌, ℤ, ◌-ℤ◌, ◌*ℤ◌, unsigned_abs, w64, arith}
use Rattle.std.proofs.lemmas.Int.{unsigned_abs-mul}
use Rattle.std.proofs.lemmas.Nat.{mul-le}
use Rattle.grid_exact.specs.Geometry.{IsGridNumber}
use Rattle.grid_exact.proofs.WholeLaws.{fits}
use mir.Val.{SFits}

-- a number of the grid
pub grid_fits : (z : ℤ) → IsGridNumber z → SFits w64 z
grid_fits z h = let low = h.low in let high = h.high in omega (arith, fits)

-- the way between two numbers of the grid
pub way_size : (y z : ℤ) → IsGridNumber y → IsGridNumber z → unsigned_abs (z -ℤ y) ≤ 2 ^ 30
way_size y z g h = let a = g.low in let b = g.high in let c = h.low in let d = h.high in omega (arith, fits)

pub way_fits : (y z : ℤ) → IsGridNumber y → IsGridNumber z → SFits w64 (z -ℤ y)
way_fits y z g h = let a = g.low in let b = g.high in let c = h.low in let d = h.high in omega (arith, fits)

pub product_size : (y z : ℤ) → unsigned_abs y ≤ 2 ^ 30 → unsigned_abs z ≤ 2 ^ 30 → unsigned_abs (y *ℤ z) ≤ 2 ^ 60
product_size y z g h = rw unsigned_abs-mul (mul-le _ _ (2 ^ 30) (2 ^ 30) g h)

pub sized_fits : (z : ℤ) → unsigned_abs z ≤ 2 ^ 62 → SFits w64 z
sized_fits z h = omega (arith, fits)
