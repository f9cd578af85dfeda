-- In which rows the entries stand that are found before the start of a row's cells, and behind their end.
use Rattle.std.proofs.Common.{◌≡◌, ◌+◌, ◌*◌, ◌<◌, ◌≤◌, ℕ, List, Bool, true, get_or, arith}
use Rattle.std.specs.Prelude.{All}
use Rattle.std.proofs.Math.Nat.{lt_of_mul-lt-mul_right}
use Rattle.std.proofs.lemmas.Bool.{and_parts}
use Rattle.grid_exact.specs.Geometry.{Place}
use Rattle.sweep_index.specs.Box.{is_in_box}
use Rattle.sweep_index.specs.Cells.{column_of, row_of}
use Rattle.sweep_index.specs.Search.{IsPlaced, IsStartOf, IsFoundAt, IsAhead, IsPassed}
use Rattle.sweep_index.specs.declared.entries.Entry.{Entry}
use Rattle.sweep_index.specs.declared.grid.Grid.{Grid}
use Rattle.sweep_index.proofs.Orders.{column_rises, box_across}

pub found_in_box : (es : List Entry) (live : List Bool) (low high : Place) (k : ℕ) (d : Entry) → IsFoundAt es live low high k
    → is_in_box low high (get_or es k d).item.at ≡ true
found_in_box es live low high k d found = (and_parts (is_in_box low high (get_or es k d).item.at) (get_or live (get_or es k d).number _)
    (found d)).0

earlier : (row r width least column : ℕ) → r * width + column < row * width + least → least ≤ column → r < row
earlier row r width least column h l = lt_of_mul-lt-mul_right width (omega (arith, h, l))

later : (row r width most column : ℕ) → row * width + most + 1 ≤ r * width + column → column ≤ most → row < r
later row r width most column h l = lt_of_mul-lt-mul_right width (omega (arith, h, l))

pub ahead_of_start : (g : Grid) (es : List Entry) (live : List Bool) (low high : Place) (begin row : ℕ) → All (IsPlaced g) es
    → IsStartOf es (row * g.columns + column_of g low.x) begin → IsAhead g es live low high begin row
ahead_of_start g es live low high begin row placed start k d below found =
    let place = (get_or es k d).item.at in
    let cell = placed k d (omega (arith, start.within, below)) in
    let across = box_across low high place (found_in_box es live low high k d found) in
    let less = start.before k d below in
    earlier row (row_of g place.y) g.columns (column_of g low.x) (column_of g place.x) (omega (arith, cell, less))
    (column_rises g low.x place.x across.0)

pub passed_by_end : (g : Grid) (es : List Entry) (live : List Bool) (low high : Place) (end row : ℕ) → All (IsPlaced g) es
    → IsStartOf es (row * g.columns + column_of g high.x + 1) end → IsPassed g es live low high end row
passed_by_end g es live low high end row placed start k d from_end in_list found =
    let place = (get_or es k d).item.at in
    let cell = placed k d in_list in
    let across = box_across low high place (found_in_box es live low high k d found) in
    let more = start.after k d from_end in_list in
    later row (row_of g place.y) g.columns (column_of g high.x) (column_of g place.x) (omega (arith, cell, more))
    (column_rises g place.x high.x across.1)
