-- The text of a coverage reads as its map.
use Rattle.std.specs.Prelude.{codes}
use Rattle.std.proofs.Common.{◌≡◌, ℕ, ◌+◌, ◌*◌, ◌^◌, ◌<◌, ◌≤◌, false, List, [], ◌∷◌, ◌++◌, length, map, refl, sym, ap, subst, ◌∙◌, arith}
use Rattle.std.proofs.Common.{append_assoc, append-nil, mul-le-mul}
use Rattle.std.specs.List.{range_with_len}
use Rattle.std.proofs.lemmas.List.FromFn.{length-range_with_len}
use Rattle.std.proofs.lemmas.Str.{IsUtf8-from_ascii}
use Rattle.grid_exact.specs.Geometry.{Place}
use Rattle.arc_map.specs.Map.{Map}
use Rattle.map_gen.specs.Make.{across_count, arc_count, positions, town, list_of, wavy_text, town_text, cell_text, made}
use Rattle.map_gen.specs.MadeMap.{ring_of, made_map}
use Rattle.topo_writer.specs.Reading.{ReadsAs}
use Rattle.map_gen.specs.Laws.{MadeTextReads}
use Rattle.topo_writer.proofs.TreeShapes.{IsListTree, AreTrees}
use Rattle.map_gen.proofs.TreeShapes.{IsTextTree, IsObjectTree}
use Rattle.topo_writer.proofs.TextForms.{Spelled, read-so, deeper}
use Rattle.map_gen.proofs.TextForms.{word-spelled, range-spelled, quoted, two_members, three_members, two-spelled, three-spelled}
use Rattle.map_gen.proofs.TreeArcs.{IsPositionTree, IsArcTree, AreArcTrees, all_arcs-read}
use Rattle.map_gen.proofs.TreeGeometries.{IsPolygonTree, IsCellsObject, HoldsCells, cells-read, IsTownsObject, HoldsTowns, towns-read}
use Rattle.map_gen.proofs.TreeGeometries.{IsObjectsObject, HoldsObjects, objects-read, IsTopologyObject, HoldsTopology, topology-read}
use Rattle.map_gen.proofs.ReadsNumbers.{IsSize}
use Rattle.map_gen.proofs.ReadsSides.{made_arcs, cell-at}
use Rattle.map_gen.proofs.ReadsTexts.{wavy-spelled, town-spelled, cell-spelled, few-numbers}

-- ---- how many there are

record Counts (rows cols : ℕ) : Type 0 where
  some_cells : 0 < rows * cols
  some_towns : 0 < across_count rows cols
  some_arcs : 0 < arc_count rows cols
  few_cells : rows * cols ≤ 10000
  few_towns : across_count rows cols ≤ 10100
  few_arcs : arc_count rows cols ≤ 20200

counts-from : (rows cols cells : ℕ) → cells ≡ rows * cols → 1 ≤ rows → rows ≤ 100 → 1 ≤ cols → cols ≤ 100 → 1 ≤ cells → cells ≤ 10000
    → Counts rows cols
counts-from rows cols cells e a b c d some few =
    let lines : across_count rows cols ≡ cells + cols = omega (arith, e) in
    let all : arc_count rows cols ≡ cells + cols + (cells + rows) = omega (arith, e) in
    record {
      some_cells = omega (arith, e);
      some_towns = omega (arith, lines);
      some_arcs = omega (arith, all);
      few_cells = omega (arith, e);
      few_towns = omega (arith, lines);
      few_arcs = omega (arith, all);
    }

counts : (rows cols : ℕ) → IsSize rows cols → Counts rows cols
counts rows cols size =
    let some : 1 * 1 ≤ rows * cols = mul-le-mul size.some_rows size.some_cols in
    let few : rows * cols ≤ 100 * 100 = mul-le-mul size.few_rows size.few_cols in
    counts-from rows cols (rows * cols) refl size.some_rows size.few_rows size.some_cols size.few_cols some few

-- ---- the parts

cells_text : ℕ → ℕ → List ℕ
cells_text rows cols = two_members (codes "type") (quoted (codes "GeometryCollection")) (codes "geometries")
    (list_of (cell_text rows cols) (rows * cols))

towns_text : ℕ → ℕ → ℕ → List ℕ
towns_text rows cols seed = two_members (codes "type") (quoted (codes "MultiPoint")) (codes "coordinates")
    (list_of (town_text rows cols seed) (across_count rows cols))

objects_text : ℕ → ℕ → ℕ → List ℕ
objects_text rows cols seed = two_members (codes "cells") (cells_text rows cols) (codes "towns") (towns_text rows cols seed)

whole_text : ℕ → ℕ → ℕ → List ℕ
whole_text rows cols seed = three_members (codes "type") (quoted (codes "Topology")) (codes "objects") (objects_text rows cols seed)
    (codes "arcs") (list_of (wavy_text rows cols seed) (arc_count rows cols))

abbrev cell_numbers : ℕ → ℕ → List ℕ
cell_numbers rows cols = range_with_len 0 (rows * cols)

abbrev town_numbers : ℕ → ℕ → List ℕ
town_numbers rows cols = range_with_len 0 (across_count rows cols)

abbrev made_points : ℕ → ℕ → ℕ → List Place
made_points rows cols seed = map (town rows cols seed) (town_numbers rows cols)

abbrev made_polygons : ℕ → ℕ → List (List ℕ)
made_polygons rows cols = map (ring_of rows cols) (cell_numbers rows cols)

abbrev counted_references : ℕ → ℕ → ℕ
counted_references rows cols = 0 + 4 * length (cell_numbers rows cols)

one-cell : (rows cols seed cell : ℕ) → IsSize rows cols → Counts rows cols → cell < rows * cols
    → Spelled (IsPolygonTree (made_arcs rows cols seed) (ring_of rows cols cell)) 3 (cell_text rows cols cell)
one-cell rows cols seed cell size count before =
    let runs = cell-at rows cols seed cell size before in
    let few : arc_count rows cols ≤ 2 ^ 20 = omega (arith, count.few_arcs) in
    cell-spelled rows cols seed cell size before (few-numbers rows cols cell size few runs.few_above runs.few_right)

cells-spelled : (rows cols seed : ℕ) → IsSize rows cols → Counts rows cols
    → Spelled (HoldsCells (made_arcs rows cols seed) (made_polygons rows cols) (counted_references rows cols)) 5 (cells_text rows cols)
unfolding cells_text
cells-spelled rows cols seed size count =
    let arcs = made_arcs rows cols seed in
    let long : length (cell_numbers rows cols) ≡ rows * cols = length-range_with_len 0 (rows * cols) in
    let few : length (cell_numbers rows cols) ≤ 2 ^ 20 = omega (arith, long, count.few_cells) in
    let list = range-spelled (λ k t. IsPolygonTree arcs (ring_of rows cols k) t) (cell_text rows cols) 3 (rows * cols) count.some_cells
    (λ cell before. one-cell rows cols seed cell size count before) in
    let word = deeper (IsTextTree (codes "GeometryCollection")) 0 4 (quoted (codes "GeometryCollection")) (omega arith)
    (word-spelled (codes "GeometryCollection") refl) in
    let object = two-spelled (IsTextTree (codes "GeometryCollection"))
    (IsListTree (AreTrees (λ k t. IsPolygonTree arcs (ring_of rows cols k) t) (cell_numbers rows cols))) 4 (codes "type")
    (quoted (codes "GeometryCollection")) (codes "geometries")
    (list_of (cell_text rows cols) (rows * cols)) refl refl word list in
    read-so (IsObjectTree (IsCellsObject arcs (ring_of rows cols) (cell_numbers rows cols)))
    (HoldsCells arcs (made_polygons rows cols) (counted_references rows cols)) 5 _ (λ t is.
    cells-read arcs (ring_of rows cols) (cell_numbers rows cols) t few is) object

towns-spelled : (rows cols seed : ℕ) → IsSize rows cols → Counts rows cols
    → Spelled (HoldsTowns (made_arcs rows cols seed) (made_points rows cols seed)) 3 (towns_text rows cols seed)
unfolding towns_text
towns-spelled rows cols seed size count =
    let arcs = made_arcs rows cols seed in
    let long : length (town_numbers rows cols) ≡ across_count rows cols = length-range_with_len 0 (across_count rows cols) in
    let few : length (town_numbers rows cols) ≤ 2 ^ 20 = omega (arith, long, count.few_towns) in
    let list = range-spelled (λ k t. IsPositionTree (town rows cols seed k) t) (town_text rows cols seed) 1 (across_count rows cols)
    count.some_towns (λ k before. town-spelled rows cols seed k size before) in
    let word = deeper (IsTextTree (codes "MultiPoint")) 0 2 (quoted (codes "MultiPoint")) (omega arith)
    (word-spelled (codes "MultiPoint") refl) in
    let object = two-spelled (IsTextTree (codes "MultiPoint")) (IsListTree
    (AreTrees (λ k t. IsPositionTree (town rows cols seed k) t) (town_numbers rows cols))) 2 (codes "type")
    (quoted (codes "MultiPoint")) (codes "coordinates")
    (list_of (town_text rows cols seed) (across_count rows cols)) refl refl word list in
    read-so (IsObjectTree (IsTownsObject (town rows cols seed) (town_numbers rows cols))) (HoldsTowns arcs (made_points rows cols seed)) 3 _
    (λ t is. towns-read arcs (town rows cols seed) (town_numbers rows cols) t few is) object

objects-spelled : (rows cols seed : ℕ) → IsSize rows cols → Counts rows cols
    → Spelled (HoldsObjects (made_arcs rows cols seed) (made_points rows cols seed) (made_polygons rows cols)) 6
    (objects_text rows cols seed)
unfolding objects_text
objects-spelled rows cols seed size count =
    let arcs = made_arcs rows cols seed in
    let cells = cells-spelled rows cols seed size count in
    let towns = deeper (HoldsTowns arcs (made_points rows cols seed)) 3 5 (towns_text rows cols seed) (omega arith)
    (towns-spelled rows cols seed size count) in
    let object = two-spelled (HoldsCells arcs (made_polygons rows cols) (counted_references rows cols))
    (HoldsTowns arcs (made_points rows cols seed)) 5 (codes "cells") (cells_text rows cols) (codes "towns") (towns_text rows cols seed)
    refl refl cells towns in
    read-so (IsObjectTree (IsObjectsObject arcs (made_points rows cols seed) (made_polygons rows cols) (counted_references rows cols)))
    (HoldsObjects arcs (made_points rows cols seed) (made_polygons rows cols)) 6 _
    (λ t is. objects-read arcs (made_points rows cols seed) (made_polygons rows cols) (counted_references rows cols) t is) object

arcs-spelled : (rows cols seed : ℕ) → IsSize rows cols → Counts rows cols
    → Spelled (AreArcTrees (made_arcs rows cols seed)) 3 (list_of (wavy_text rows cols seed) (arc_count rows cols))
arcs-spelled rows cols seed size count =
    let numbers = range_with_len 0 (arc_count rows cols) in
    let long : length (range_with_len 0 (arc_count rows cols)) ≡ arc_count rows cols = length-range_with_len 0 (arc_count rows cols) in
    let few : 9 * length (range_with_len 0 (arc_count rows cols)) ≤ 2 ^ 20 = omega (arith, long, count.few_arcs) in
    let list = range-spelled (λ k t. IsArcTree (positions rows cols seed k) t) (wavy_text rows cols seed) 2 (arc_count rows cols)
    count.some_arcs (λ k before. wavy-spelled rows cols seed k size before) in
    read-so (IsListTree (AreTrees (λ k t. IsArcTree (positions rows cols seed k) t) numbers)) (AreArcTrees (made_arcs rows cols seed)) 3
    (list_of (wavy_text rows cols seed) (arc_count rows cols))
    (λ t is. all_arcs-read (positions rows cols seed) numbers t few is) list

whole-spelled : (rows cols seed : ℕ) → IsSize rows cols → Counts rows cols
    → Spelled (HoldsTopology (made_map rows cols seed)) 7 (whole_text rows cols seed)
unfolding whole_text made_map
whole-spelled rows cols seed size count =
    let arcs = made_arcs rows cols seed in
    let word = deeper (IsTextTree (codes "Topology")) 0 6 (quoted (codes "Topology")) (omega arith) (word-spelled (codes "Topology") refl)
    in
    let objects = objects-spelled rows cols seed size count in
    let value = deeper (AreArcTrees arcs) 3 6 (list_of (wavy_text rows cols seed) (arc_count rows cols)) (omega arith)
    (arcs-spelled rows cols seed size count) in
    let object = three-spelled (IsTextTree (codes "Topology")) (HoldsObjects arcs (made_points rows cols seed) (made_polygons rows cols))
    (AreArcTrees arcs) 6 (codes "type") (quoted (codes "Topology")) (codes "objects") (objects_text rows cols seed)
    (codes "arcs") (list_of (wavy_text rows cols seed) (arc_count rows cols)) refl refl refl word objects value in
    read-so (IsObjectTree (IsTopologyObject arcs (made_points rows cols seed) (made_polygons rows cols)))
    (HoldsTopology (made_map rows cols seed)) 7 _ (λ t is. topology-read arcs (made_points rows cols seed) (made_polygons rows cols) t
    is) object

-- ---- the text

regrouped : (cells towns arcs middle last : List ℕ)
    → (((cells ++ 125 ∷ []) ++ (middle ++ (towns ++ 125 ∷ []))) ++ 125 ∷ []) ++ (last ++ arcs)
    ≡ (((cells ++ (125 ∷ middle)) ++ towns) ++ (125 ∷ 125 ∷ last)) ++ arcs
regrouped cells towns arcs middle last = simp append_assoc

-- the parts of the text, put together
abbrev joined_text : List ℕ → List ℕ → List ℕ → List ℕ
joined_text cells towns arcs =
    three_members (codes "type") (quoted (codes "Topology"))
    (codes "objects") (two_members (codes "cells") (two_members (codes "type") (quoted (codes "GeometryCollection")) (codes "geometries")
    cells) (codes "towns") (two_members (codes "type") (quoted (codes "MultiPoint")) (codes "coordinates") towns))
    (codes "arcs") arcs

all-joined : (cells towns arcs : List ℕ) → joined_text cells towns arcs
    ≡ codes "{\"type\":\"Topology\",\"objects\":{\"cells\":{\"type\":\"GeometryCollection\",\"geometries\":" ++ cells
    ++ codes "},\"towns\":{\"type\":\"MultiPoint\",\"coordinates\":" ++ towns ++ codes "}},\"arcs\":" ++ arcs ++ codes "}"
all-joined cells towns arcs =
    ap (λ (l : List ℕ). codes "{\"type\":\"Topology\",\"objects\":{\"cells\":{\"type\":\"GeometryCollection\",\"geometries\":"
    ++ (l ++ 125 ∷ []))
    (regrouped cells towns arcs (codes ",\"towns\":{\"type\":\"MultiPoint\",\"coordinates\":") (codes ",\"arcs\":"))

whole-joined : (rows cols seed : ℕ) → whole_text rows cols seed ≡ made rows cols seed
unfolding whole_text objects_text cells_text towns_text made
whole-joined rows cols seed = all-joined (list_of (cell_text rows cols) (rows * cols))
    (list_of (town_text rows cols seed) (across_count rows cols)) (list_of (wavy_text rows cols seed) (arc_count rows cols))

-- ---- the law

spelled-reads : (text : List ℕ) (m : Map) → Spelled (HoldsTopology m) 7 text → ReadsAs text m
spelled-reads text m s =
    let deep = s.deep in
    record {
      utf8 = IsUtf8-from_ascii text s.ascii;
      document = record { mark = false; before = []; value = s.form; after = [] };
      json = record {
        document = record { before = tt; value = s.valid; after = tt };
        depth = omega (arith, deep);
        spelled = sym (s.spelled [] ∙ append-nil text);
        its_nodes = refl;
      };
      arcs_at = (s.tree 0).0;
      topology = (s.tree 0).1;
    }

pub made-reads : MadeTextReads
made-reads rows cols seed some_rows few_rows some_cols few_cols =
    let size : IsSize rows cols = record { some_rows = some_rows; few_rows = few_rows; some_cols = some_cols; few_cols = few_cols } in
    let whole = whole-spelled rows cols seed size (counts rows cols size) in
    spelled-reads (made rows cols seed) (made_map rows cols seed)
    (subst (Spelled (HoldsTopology (made_map rows cols seed)) 7) (whole-joined rows cols seed) whole)

-- a text that was made reads as the map
pub text-reads : (rows cols seed : ℕ) (text : List ℕ) → (1 ≤ rows) × (rows ≤ 100) → (1 ≤ cols) × (cols ≤ 100) → text ≡ made rows cols seed
    → ReadsAs text (made_map rows cols seed)
text-reads rows cols seed text some_rows some_cols is =
    subst (λ (t : List ℕ). ReadsAs t (made_map rows cols seed)) (sym is)
    (made-reads rows cols seed some_rows.0 some_rows.1 some_cols.0 some_cols.1)
