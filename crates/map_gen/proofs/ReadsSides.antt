-- The four sides of a cell make up a ring of the made arcs.
use Rattle.std.proofs.Common.{◌≡◌, ℕ, ◌+◌, ◌*◌, ◌/◌, ◌%◌, ◌<◌, List, [], ◌∷◌, length, map, Some, Ok, Result, ℤ, pos, negsuc, refl, sym, ap}
use Rattle.std.proofs.Common.{◌∙◌, arith, div-add-mod'}
use Rattle.std.specs.Prelude.{slice_get}
use Rattle.std.specs.List.{range_with_len}
use Rattle.std.proofs.lemmas.Nat.{div_below, mod_below, mul-add-lt}
use Rattle.std.proofs.lemmas.Option.{slice_get-get_or}
use Rattle.std.proofs.lemmas.List.FromFn.{length-map-range_with_len, get_or-map-range_with_len}
use Rattle.grid_exact.specs.Geometry.{Place}
use Rattle.json_scan.specs.Tree.{Tree}
use Rattle.topo_reader.specs.declared.fault.ReadFault.{ReadFault}
use Rattle.topo_reader.specs.declared.line.Step.{Step}
use Rattle.map_gen.specs.Make.{across_count, arc_count, positions, left_side}
use Rattle.map_gen.specs.MadeMap.{ring_of}
use Rattle.topo_writer.proofs.TreeShapes.{IsNumberTree, IsListTree, AreTrees}
use Rattle.map_gen.proofs.TreeRings.{side, IsSideTree, IsRingTree, forwards-read, backwards-read, four-read}
use Rattle.map_gen.proofs.ReadsNumbers.{IsSize}
use Rattle.map_gen.proofs.ReadsPlaces.{corner, Runs, across-runs, up-runs}

-- the arcs of the made map
abbrev pub made_arcs : ℕ → ℕ → ℕ → List (List Place)
made_arcs rows cols seed = map (positions rows cols seed) (range_with_len 0 (arc_count rows cols))

pub made_arc : (rows cols seed arc : ℕ) → arc < arc_count rows cols
    → slice_get (made_arcs rows cols seed) arc ≡ Some (positions rows cols seed arc)
made_arc rows cols seed arc before =
    let long : length (made_arcs rows cols seed) ≡ arc_count rows cols =
    length-map-range_with_len (positions rows cols seed) 0 (arc_count rows cols) in
    let within : arc < length (made_arcs rows cols seed) = omega (arith, long, before) in
    let number : 0 + arc ≡ arc = omega arith in
    slice_get-get_or (made_arcs rows cols seed) arc [] within
    ∙ ap Some (get_or-map-range_with_len (positions rows cols seed) 0 (arc_count rows cols) arc arc [] before number)

same-side : (k : ℕ) (a b from to : Place) → a ≡ from → b ≡ to → ◌≡◌ {A = Result Step ReadFault} (Ok (side k a b)) (Ok (side k from to))
same-side k a b from to p q = rw (p, q) refl

pub side-forwards : (rows cols seed arc : ℕ) (from to : Place) → arc < arc_count rows cols → Runs rows cols seed arc from to → (t : Tree)
    → IsNumberTree (pos arc) t → IsSideTree (made_arcs rows cols seed) (side arc from to) t
side-forwards rows cols seed arc from to before runs t is =
    forwards-read (made_arcs rows cols seed) arc (positions rows cols seed arc) t (made_arc rows cols seed arc before) is
    ∙ same-side arc _ _ from to runs.first runs.last

pub side-backwards : (rows cols seed arc : ℕ) (from to : Place) → arc < arc_count rows cols → Runs rows cols seed arc from to → (t : Tree)
    → IsNumberTree (negsuc arc) t → IsSideTree (made_arcs rows cols seed) (side arc to from) t
side-backwards rows cols seed arc from to before runs t is =
    backwards-read (made_arcs rows cols seed) arc (positions rows cols seed arc) t (made_arc rows cols seed arc before) is
    ∙ same-side arc _ _ to from runs.last runs.first

-- ---- the sides of a cell

pub record CellRuns (rows cols seed cell row col : ℕ) : Type 0 where
  pub few_below : cell < arc_count rows cols
  pub few_above : cell + cols < arc_count rows cols
  pub few_left : left_side rows cols cell < arc_count rows cols
  pub few_right : left_side rows cols cell + 1 < arc_count rows cols
  pub below : Runs rows cols seed cell (corner row col) (corner row (col + 1))
  pub above : Runs rows cols seed (cell + cols) (corner (row + 1) col) (corner (row + 1) (col + 1))
  pub left : Runs rows cols seed (left_side rows cols cell) (corner row col) (corner (row + 1) col)
  pub right : Runs rows cols seed (left_side rows cols cell + 1) (corner row (col + 1)) (corner (row + 1) (col + 1))

next-row : (row cols col : ℕ) → (row * cols + col) + cols ≡ (row + 1) * cols + col
next-row row cols col = omega arith

left-number : (row cols col : ℕ) → (row * cols + col) + row ≡ row * (cols + 1) + col
left-number row cols col = omega arith

more-lines : (rows cols : ℕ) → (rows + 1) * cols ≡ rows * cols + cols
more-lines rows cols = omega arith

cell-runs : (rows cols seed cell row col : ℕ) → IsSize rows cols → cell ≡ row * cols + col → row < rows → col < cols → cell / cols ≡ row
    → CellRuns rows cols seed cell row col
cell-runs rows cols seed cell row col size at line column quotient =
    let count : across_count rows cols ≡ rows * cols + cols = more-lines rows cols in
    let within : row * cols + col < cols * rows = mul-add-lt row cols col rows line column in
    let turned : cols * rows ≡ rows * cols = omega arith in
    let lower : cell < across_count rows cols = omega (arith, count, within, turned, at) in
    let upper : cell + cols < across_count rows cols = omega (arith, count, within, turned, at) in
    let above_at : cell + cols ≡ (row + 1) * cols + col = ap (λ (n : ℕ). n + cols) at ∙ next-row row cols col in
    let left_up : cell + cell / cols ≡ row * (cols + 1) + col = omega (arith, at, quotient, left-number row cols col) in
    let right_up : cell + cell / cols + 1 ≡ row * (cols + 1) + (col + 1) = omega (arith, left_up) in
    let left_within : row * (cols + 1) + col < (cols + 1) * rows = mul-add-lt row (cols + 1) col rows line (omega arith) in
    let right_within : row * (cols + 1) + (col + 1) < (cols + 1) * rows = mul-add-lt row (cols + 1) (col + 1) rows line (omega arith) in
    let flipped : (cols + 1) * rows ≡ rows * (cols + 1) = omega arith in
    let left_is : left_side rows cols cell ≡ across_count rows cols + (cell + cell / cols) = omega arith in
    let right_is : left_side rows cols cell + 1 ≡ across_count rows cols + (cell + cell / cols + 1) = omega arith in
    record {
      few_below = omega (arith, lower);
      few_above = omega (arith, upper);
      few_left = omega (arith, left_is, left_up, left_within, flipped);
      few_right = omega (arith, right_is, right_up, right_within, flipped);
      below = across-runs rows cols seed cell row col lower at column;
      above = across-runs rows cols seed (cell + cols) (row + 1) col upper above_at column;
      left = up-runs rows cols seed (left_side rows cols cell) (cell + cell / cols) row col left_is left_up (omega arith);
      right = up-runs rows cols seed (left_side rows cols cell + 1) (cell + cell / cols + 1) row (col + 1) right_is right_up (omega arith);
    }

-- the four numbers of a ring
abbrev pub ring_numbers : ℕ → ℕ → ℕ → List ℤ
ring_numbers rows cols cell = pos cell ∷ pos (left_side rows cols cell + 1) ∷ negsuc (cell + cols) ∷ negsuc (left_side rows cols cell) ∷ []

runs-ring : (rows cols seed cell row col : ℕ) → CellRuns rows cols seed cell row col → (t : Tree)
    → IsListTree (AreTrees IsNumberTree (ring_numbers rows cols cell)) t → IsRingTree (made_arcs rows cols seed) (ring_of rows cols cell) t
runs-ring rows cols seed cell row col runs t is =
    four-read (made_arcs rows cols seed) cell (left_side rows cols cell + 1) (cell + cols) (left_side rows cols cell)
    (corner row col) (corner row (col + 1)) (corner (row + 1) (col + 1)) (corner (row + 1) col)
    (pos cell) (pos (left_side rows cols cell + 1)) (negsuc (cell + cols)) (negsuc (left_side rows cols cell)) t
    (side-forwards rows cols seed cell (corner row col) (corner row (col + 1)) runs.few_below runs.below)
    (side-forwards rows cols seed (left_side rows cols cell + 1) (corner row (col + 1)) (corner (row + 1) (col + 1)) runs.few_right
    runs.right)
    (side-backwards rows cols seed (cell + cols) (corner (row + 1) col) (corner (row + 1) (col + 1)) runs.few_above runs.above)
    (side-backwards rows cols seed (left_side rows cols cell) (corner row col) (corner (row + 1) col) runs.few_left runs.left)
    is

pub cell-at : (rows cols seed cell : ℕ) → IsSize rows cols → cell < rows * cols → CellRuns rows cols seed cell (cell / cols) (cell % cols)
cell-at rows cols seed cell size before =
    let some : 0 < cols = omega (arith, size.some_cols) in
    let line : cell / cols < rows = div_below cell cols rows some before in
    let column : cell % cols < cols = mod_below cell cols some in
    cell-runs rows cols seed cell (cell / cols) (cell % cols) size (sym (div-add-mod' cell cols)) line column refl

pub cell-ring : (rows cols seed cell : ℕ) → IsSize rows cols → cell < rows * cols → (t : Tree)
    → IsListTree (AreTrees IsNumberTree (ring_numbers rows cols cell)) t → IsRingTree (made_arcs rows cols seed) (ring_of rows cols cell) t
cell-ring rows cols seed cell size before = runs-ring rows cols seed cell (cell / cols) (cell % cols)
    (cell-at rows cols seed cell size before)
