-- Offsets, columns and rows keep the order of coordinates.
use Rattle.std.proofs.Common.{◌≡◌, ◌-◌, ◌/◌, ◌^◌, ◌<◌, ◌≤◌, ℕ, min, ℤ, pos, negsuc, ◌≤ℤ◌, true, arith}
use Rattle.std.proofs.Math.Nat.{div-mul-le_self}
use Rattle.std.proofs.lemmas.Nat.{le-div, pow_pos}
use Rattle.std.proofs.lemmas.Int.{ints}
use Rattle.std.proofs.lemmas.Bool.{and_parts}
use Rattle.std.specs.Prelude.{int_le}
use Rattle.grid_exact.specs.Geometry.{Place}
use Rattle.sweep_index.specs.Box.{is_from_to, is_in_box}
use Rattle.sweep_index.specs.Offsets.{offset_of}
use Rattle.sweep_index.specs.Cells.{column_of, row_of}
use Rattle.sweep_index.specs.declared.grid.Grid.{Grid}

pub offset_rises : (a b : ℤ) → a ≤ℤ b → offset_of a ≤ offset_of b
offset_rises (pos a) (pos b) h = omega (arith, ints)
offset_rises (pos a) (negsuc b) h = omega (arith, ints)
offset_rises (negsuc a) (pos b) h = omega (arith, ints)
offset_rises (negsuc a) (negsuc b) h = omega (arith, ints)

pub div_rises : (a b k : ℕ) → 0 < k → a ≤ b → a / k ≤ b / k
div_rises a b k some h = let below = div-mul-le_self a k in le-div (a / k) b k some (omega (arith, below))

capped_rises : (a b top : ℕ) → a ≤ b → min a top ≤ min b top
capped_rises a b top h = omega arith

pub column_rises : (g : Grid) (a b : ℤ) → a ≤ℤ b → column_of g a ≤ column_of g b
column_rises g a b h =
    let step = offset_rises a b h in
    let less : offset_of a - g.west ≤ offset_of b - g.west = omega (arith, step) in
    capped_rises _ _ _ (div_rises _ _ (2 ^ g.shift) (pow_pos g.shift) less)

pub row_rises : (g : Grid) (a b : ℤ) → a ≤ℤ b → row_of g a ≤ row_of g b
row_rises g a b h =
    let step = offset_rises a b h in
    let less : offset_of a - g.south ≤ offset_of b - g.south = omega (arith, step) in
    capped_rises _ _ _ (div_rises _ _ (2 ^ g.shift) (pow_pos g.shift) less)

le_from_test : (a b : ℤ) → int_le a b ≡ true → a ≤ℤ b
le_from_test a b h = grind (arith, ints)

pub from_to_parts : (low high z : ℤ) → is_from_to low high z ≡ true → (low ≤ℤ z) × (z ≤ℤ high)
from_to_parts low high z h =
    let parts = and_parts (int_le low z) (int_le z high) h in
    (le_from_test low z parts.0, le_from_test z high parts.1)

pub box_across : (low high p : Place) → is_in_box low high p ≡ true → (low.x ≤ℤ p.x) × (p.x ≤ℤ high.x)
box_across low high p h = from_to_parts low.x high.x p.x (and_parts (is_from_to low.x high.x p.x) (is_from_to low.y high.y p.y) h).0

pub box_up : (low high p : Place) → is_in_box low high p ≡ true → (low.y ≤ℤ p.y) × (p.y ≤ℤ high.y)
box_up low high p h = from_to_parts low.y high.y p.y (and_parts (is_from_to low.x high.x p.x) (is_from_to low.y high.y p.y) h).1
