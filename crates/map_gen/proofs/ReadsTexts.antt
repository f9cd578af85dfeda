-- The texts of the made positions, arcs, towns and cells are JSON, and are read as these.
use Rattle.std.specs.Prelude.{codes}
use Rattle.std.proofs.Common.{◌≡◌, ℕ, ◌+◌, ◌*◌, ◌^◌, ◌<◌, ◌≤◌, List, [], ◌∷◌, ◌++◌, None, pos, negsuc, refl, sym, ap, subst, ◌∙◌, arith}
use Rattle.std.proofs.Common.{append_assoc, append-nil}
use Rattle.std.specs.List.{range_with_len}
use Rattle.std.specs.Fmt.{signed_decimal}
use lib.Signed.{mag}
use Rattle.grid_exact.specs.Geometry.{Place}
use Rattle.topo_writer.specs.Texts.{list_text, position_text}
use Rattle.map_gen.specs.Lattice.{IsSmall}
use Rattle.map_gen.specs.Make.{across_count, arc_count, position, positions, town, left_side, list_of, wavy_text, town_text, ring_text}
use Rattle.map_gen.specs.Make.{cell_text}
use Rattle.map_gen.specs.MadeMap.{ring_of}
use Rattle.map_gen.proofs.Lists.{position_text_at, wavy-list}
use Rattle.topo_writer.proofs.TreeShapes.{IsPairTree, IsNumberTree, IsListTree, AreTrees}
use Rattle.map_gen.proofs.TreeShapes.{IsTextTree, IsObjectTree}
use Rattle.topo_writer.proofs.TextForms.{pair-spelled, Spelled, read-so, deeper, number-spelled, list-spelled}
use Rattle.map_gen.proofs.TextForms.{word-spelled, range-spelled, quoted, two_members, two-spelled}
use Rattle.map_gen.proofs.TreeArcs.{IsPositionTree, position-read, Moves, moves-on, IsArcTree, arc-read}
use Rattle.map_gen.proofs.TreeRings.{IsRingTree, AreRingTrees, one_ring-read}
use Rattle.map_gen.proofs.TreeGeometries.{IsPolygonTree, IsPolygonObject, polygon-read}
use Rattle.map_gen.proofs.ReadsNumbers.{IsSize, small-magnitude, position-small, town-small, position-moves}
use Rattle.map_gen.proofs.ReadsSides.{made_arcs, ring_numbers, cell-ring}

-- ---- positions

pub position-spelled : (p : Place) → IsSmall p.x → IsSmall p.y → Spelled (IsPositionTree p) 1 (position_text p)
position-spelled p across up =
    read-so (IsPairTree p) (IsPositionTree p) 1 (position_text p) (λ t is. position-read p t across up is)
    (pair-spelled p (small-magnitude p.x across) (small-magnitude p.y up))

-- ---- arcs

arc-moves : (rows cols seed arc : ℕ) → Moves None (positions rows cols seed arc)
arc-moves rows cols seed arc = (refl, moves-on (position rows cols seed arc) (position-moves rows cols seed arc) 0 8)

pub wavy-spelled : (rows cols seed arc : ℕ) → IsSize rows cols → arc < arc_count rows cols
    → Spelled (IsArcTree (positions rows cols seed arc)) 2 (wavy_text rows cols seed arc)
wavy-spelled rows cols seed arc size before =
    let each = λ (k : ℕ) (few : k < 9). let small = position-small rows cols seed arc k size before few in
    position-spelled (position rows cols seed arc k) small.across small.up in
    let listed = range-spelled (λ k t. IsPositionTree (position rows cols seed arc k) t) (position_text_at rows cols seed arc) 1 9
    (omega arith) each in
    let read = read-so (IsListTree (AreTrees (λ k t. IsPositionTree (position rows cols seed arc k) t) (range_with_len 0 9)))
    (IsArcTree (positions rows cols seed arc)) 2 (list_of (position_text_at rows cols seed arc) 9)
    (λ t is. arc-read (position rows cols seed arc) t (arc-moves rows cols seed arc) is) listed in
    subst (Spelled (IsArcTree (positions rows cols seed arc)) 2) (sym (wavy-list rows cols seed arc)) read

-- ---- towns

pub town-spelled : (rows cols seed arc : ℕ) → IsSize rows cols → arc < across_count rows cols
    → Spelled (IsPositionTree (town rows cols seed arc)) 1 (town_text rows cols seed arc)
unfolding town_text
town-spelled rows cols seed arc size before =
    let small = town-small rows cols seed arc size before in
    position-spelled (town rows cols seed arc) small.across small.up

-- ---- cells

pub record FewNumbers (rows cols cell : ℕ) : Type 0 where
  pub below : mag (pos cell) ≤ 2 ^ 30
  pub right : mag (pos (left_side rows cols cell + 1)) ≤ 2 ^ 30
  pub above : mag (negsuc (cell + cols)) ≤ 2 ^ 30
  pub left : mag (negsuc (left_side rows cols cell)) ≤ 2 ^ 30

pub few-numbers : (rows cols cell : ℕ) → IsSize rows cols → arc_count rows cols ≤ 2 ^ 20 → cell + cols < arc_count rows cols
    → left_side rows cols cell + 1 < arc_count rows cols → FewNumbers rows cols cell
few-numbers rows cols cell size few a b = record { below = omega arith; right = omega arith; above = omega arith; left = omega arith }

ring-spelled : (rows cols seed cell : ℕ) → IsSize rows cols → cell < rows * cols → FewNumbers rows cols cell
    → Spelled (IsRingTree (made_arcs rows cols seed) (ring_of rows cols cell)) 1 (ring_text rows cols cell)
unfolding ring_text
ring-spelled rows cols seed cell size before few =
    let below = number-spelled (pos cell) few.below in
    let right = number-spelled (pos (left_side rows cols cell + 1)) few.right in
    let above = number-spelled (negsuc (cell + cols)) few.above in
    let left = number-spelled (negsuc (left_side rows cols cell)) few.left in
    let listed = list-spelled IsNumberTree signed_decimal 0 (pos cell)
    (pos (left_side rows cols cell + 1) ∷ negsuc (cell + cols) ∷ negsuc (left_side rows cols cell) ∷ []) below
    (right, (above, (left, tt))) in
    read-so (IsListTree (AreTrees IsNumberTree (ring_numbers rows cols cell)))
    (IsRingTree (made_arcs rows cols seed) (ring_of rows cols cell)) 1 _ (cell-ring rows cols seed cell size before) listed

polygon-joined : (ring : List ℕ) → two_members (codes "type") (quoted (codes "Polygon")) (codes "arcs") (list_text (ring ∷ []))
    ≡ codes "{\"type\":\"Polygon\",\"arcs\":[" ++ ring ++ codes "]}"
polygon-joined ring =
    ap (λ (l : List ℕ). codes "{\"type\":\"Polygon\",\"arcs\":[" ++ l) (ap (λ (l : List ℕ). (l ++ 93 ∷ []) ++ 125 ∷ []) (append-nil ring)
    ∙ append_assoc ring (93 ∷ []) (125 ∷ []))

cell-joined : (rows cols cell : ℕ) → two_members (codes "type") (quoted (codes "Polygon")) (codes "arcs")
    (list_text (ring_text rows cols cell ∷ [])) ≡ cell_text rows cols cell
unfolding cell_text
cell-joined rows cols cell = polygon-joined (ring_text rows cols cell)

pub cell-spelled : (rows cols seed cell : ℕ) → IsSize rows cols → cell < rows * cols → FewNumbers rows cols cell
    → Spelled (IsPolygonTree (made_arcs rows cols seed) (ring_of rows cols cell)) 3 (cell_text rows cols cell)
cell-spelled rows cols seed cell size before few =
    let arcs = made_arcs rows cols seed in
    let rings = list-spelled (λ k t. IsRingTree arcs (ring_of rows cols k) t) (ring_text rows cols) 1 cell []
    (ring-spelled rows cols seed cell size before few) tt in
    let value = read-so (IsListTree (AreTrees (λ k t. IsRingTree arcs (ring_of rows cols k) t) (cell ∷ [])))
    (AreRingTrees arcs (ring_of rows cols cell)) 2 (list_text (ring_text rows cols cell ∷ []))
    (one_ring-read arcs (ring_of rows cols) cell) rings in
    let word = deeper (IsTextTree (codes "Polygon")) 0 2 (quoted (codes "Polygon")) (omega arith) (word-spelled (codes "Polygon") refl) in
    let object = two-spelled (IsTextTree (codes "Polygon")) (AreRingTrees arcs (ring_of rows cols cell)) 2 (codes "type")
    (quoted (codes "Polygon")) (codes "arcs") (list_text (ring_text rows cols cell ∷ [])) refl refl word value in
    let polygon = read-so (IsObjectTree (IsPolygonObject arcs (ring_of rows cols cell))) (IsPolygonTree arcs (ring_of rows cols cell)) 3
    (two_members (codes "type") (quoted (codes "Polygon")) (codes "arcs") (list_text (ring_text rows cols cell ∷ [])))
    (polygon-read arcs (ring_of rows cols cell)) object in
    subst (Spelled (IsPolygonTree arcs (ring_of rows cols cell)) 3) (cell-joined rows cols cell) polygon
