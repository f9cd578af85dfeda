-- The corners of the cells, at which the arcs begin and end.
use Rattle.std.proofs.Common.{◌≡◌, ℕ, ◌+◌, ◌-◌, ◌*◌, ◌/◌, ◌%◌, ◌<◌, ◌≤◌, pos, ◌+ℤ◌, refl, ap, ◌∙◌, arith}
use Rattle.std.proofs.lemmas.Int.{ints}
use Rattle.std.proofs.lemmas.Nat.{div-mul-add, mod-mul-add}
use Rattle.grid_exact.specs.Geometry.{Place}
use Rattle.grid_exact.proofs.Commons.{same_place}
use Rattle.map_gen.specs.Make.{across_count, position}
use Rattle.map_gen.proofs.ReadsNumbers.{across-is, up-is}

-- the corner of this row and column
abbrev pub corner : ℕ → ℕ → Place
corner row col = record { x = pos (64 * col); y = pos (64 * row) }

-- where an arc begins and ends
pub record Runs (rows cols seed arc : ℕ) (from to : Place) : Type 0 where
  pub first : position rows cols seed arc 0 ≡ from
  pub last : position rows cols seed arc 8 ≡ to

on-corner : (p : Place) (row col m n : ℕ) → p.x ≡ pos m → p.y ≡ pos n → m ≡ 64 * col → n ≡ 64 * row → p ≡ corner row col
on-corner p row col m n across up e f = same_place p (corner row col) (across ∙ ap pos e) (up ∙ ap pos f)

no-offset : (n : ℕ) → pos n +ℤ pos 0 ≡ pos n
no-offset n = omega (arith, ints)

pub across-runs : (rows cols seed arc row col : ℕ) → arc < across_count rows cols → arc ≡ row * cols + col → col < cols
    → Runs rows cols seed arc (corner row col) (corner row (col + 1))
across-runs rows cols seed arc row col before at within =
    let line : arc / cols ≡ row = ap (λ (n : ℕ). n / cols) at ∙ div-mul-add row cols col within in
    let column : arc % cols ≡ col = ap (λ (n : ℕ). n % cols) at ∙ mod-mul-add row cols col within in
    let begin : 64 * (arc % cols) + 8 * 0 ≡ 64 * col = omega (arith, column) in
    let end : 64 * (arc % cols) + 8 * 8 ≡ 64 * (col + 1) = omega (arith, column) in
    let height : 64 * (arc / cols) ≡ 64 * row = omega (arith, line) in
    record {
      first = across-is rows cols seed arc 0 before ∙ on-corner _ row col (64 * (arc % cols) + 8 * 0) (64 * (arc / cols)) refl
          (no-offset (64 * (arc / cols))) begin height;
      last = across-is rows cols seed arc 8 before ∙ on-corner _ row (col + 1) (64 * (arc % cols) + 8 * 8) (64 * (arc / cols)) refl
          (no-offset (64 * (arc / cols))) end height;
    }

pub up-runs : (rows cols seed arc up row col : ℕ) → arc ≡ across_count rows cols + up → up ≡ row * (cols + 1) + col → col < cols + 1
    → Runs rows cols seed arc (corner row col) (corner (row + 1) col)
up-runs rows cols seed arc up row col is at within =
    let past : across_count rows cols ≤ arc = omega (arith, is) in
    let number : arc - across_count rows cols ≡ row * (cols + 1) + col = omega (arith, is, at) in
    let n = arc - across_count rows cols in
    let line : n / (cols + 1) ≡ row = ap (λ (k : ℕ). k / (cols + 1)) number ∙ div-mul-add row (cols + 1) col within in
    let column : n % (cols + 1) ≡ col = ap (λ (k : ℕ). k % (cols + 1)) number ∙ mod-mul-add row (cols + 1) col within in
    let begin : 64 * (n / (cols + 1)) + 8 * 0 ≡ 64 * row = omega (arith, line) in
    let end : 64 * (n / (cols + 1)) + 8 * 8 ≡ 64 * (row + 1) = omega (arith, line) in
    let across : 64 * (n % (cols + 1)) ≡ 64 * col = omega (arith, column) in
    record {
      first = up-is rows cols seed arc 0 past ∙ on-corner _ row col (64 * (n % (cols + 1))) (64 * (n / (cols + 1)) + 8 * 0)
          (no-offset (64 * (n % (cols + 1)))) refl across begin;
      last = up-is rows cols seed arc 8 past ∙ on-corner _ (row + 1) col (64 * (n % (cols + 1))) (64 * (n / (cols + 1)) + 8 * 8)
          (no-offset (64 * (n % (cols + 1)))) refl across end;
    }
