-- Rings that were read are on the grid.
use Rattle.std.specs.List.{AllByRecursion}
use Rattle.std.proofs.Common.{◌≡◌, ℕ, ◌+◌, ◌^◌, List, [], ◌∷◌, ◌++◌, length, sum_by, Result, Ok, subst}
use Rattle.grid_exact.specs.Geometry.{Place}
use Rattle.json_scan.specs.Tree.{Tree, Trees, NoTrees, NextTree}
use Rattle.topo_reader.specs.Sequence.{and_then, each}
use Rattle.topo_reader.specs.Positions.{position_of, origin}
use Rattle.topo_reader.proofs.ArcLaws.{same-ok, then-ok}
use Rattle.topo_writer.proofs.ReadArcs.{position-keeps}
use Rattle.geo_reader.specs.declared.fault.GeoFault.{GeoFault}
use Rattle.geo_reader.specs.Steps.{list_of}
use Rattle.geo_reader.specs.Rings.{position_at, position_added, positions_added, is_short, is_closed, closed, ring_from, ring_of}
use Rattle.geo_reader.specs.Rings.{ring_added}
use Rattle.geo_reader.specs.Rings.{polygon_added, polygons_added}
use Rattle.geo_reader.proofs.RingLaws.{kept-ok, past-ok, below-ok}
use Rattle.geo_text.proofs.Readable.{IsOnGrid}
use Rattle.geo_text.proofs.ArcsBuilt.{all-push}
use Rattle.geo_text.proofs.PointsWritten.{position-ok}

-- all positions of all rings are on the grid
abbrev pub AreOnGrid : List (List Place) → Type 0
AreOnGrid rings = AllByRecursion (AllByRecursion IsOnGrid) rings

positions-on_grid : (before : ℕ) (trees : Trees) (ring after : List Place) → positions_added before trees ring ≡ Ok after
    → AllByRecursion IsOnGrid ring → AllByRecursion IsOnGrid after
positions-on_grid before NoTrees ring after h on = subst (AllByRecursion IsOnGrid) (same-ok ring after h) on
positions-on_grid before (NextTree t others) ring after h on =
    let step = then-ok (position_added before t ring) (positions_added before others) after h in
    let counted = below-ok (before + length ring) (2 ^ 19) _ _ step.0 step.1 in
    let placed = then-ok (position_at t) (λ p. Ok (ring ++ p ∷ [])) step.0 counted.1 in
    let grid = position-keeps origin placed.0 t (position-ok (position_of origin t) placed.0 placed.1) in
    positions-on_grid before others step.0 after step.2
    (subst (AllByRecursion IsOnGrid) (same-ok (ring ++ placed.0 ∷ []) step.0 placed.2) (all-push IsOnGrid ring placed.0 on grid))

ring-on_grid : (before : ℕ) (t : Tree) (ring : List Place) → ring_of before t ≡ Ok ring → AllByRecursion IsOnGrid ring
ring-on_grid before t ring h =
    let listed = then-ok (list_of t) (ring_from before t) ring h in
    let long = past-ok (is_short listed.0) _ _ ring listed.2 in
    let read = then-ok (positions_added before listed.0 []) (closed t) ring long.1 in
    let shut = kept-ok (is_closed read.0) _ _ ring read.2 in
    subst (AllByRecursion IsOnGrid) (same-ok read.0 ring shut.1) (positions-on_grid before listed.0 [] read.0 read.1 tt)

added-on_grid : (t : Tree) (before after : List (List Place)) → ring_added t before ≡ Ok after → AreOnGrid before → AreOnGrid after
added-on_grid t before after h on =
    let ring = then-ok (ring_of (sum_by length before) t) (λ ring. Ok (before ++ ring ∷ [])) after h in
    subst AreOnGrid (same-ok (before ++ ring.0 ∷ []) after ring.2)
    (all-push (AllByRecursion IsOnGrid) before ring.0 on (ring-on_grid (sum_by length before) t ring.0 ring.1))

each-on_grid : (one : Tree → List (List Place) → Result (List (List Place)) GeoFault)
    → ((t : Tree) (before after : List (List Place)) → one t before ≡ Ok after → AreOnGrid before → AreOnGrid after)
    → (trees : Trees) (before after : List (List Place)) → each one trees before ≡ Ok after → AreOnGrid before → AreOnGrid after
each-on_grid one keeps NoTrees before after h on = subst AreOnGrid (same-ok before after h) on
each-on_grid one keeps (NextTree t others) before after h on =
    let step = then-ok (one t before) (each one others) after h in
    each-on_grid one keeps others step.0 after step.2 (keeps t before step.0 step.1 on)

pub polygon-on_grid : (t : Tree) (before after : List (List Place)) → polygon_added t before ≡ Ok after → AreOnGrid before → AreOnGrid after
polygon-on_grid t before after h on =
    let listed = then-ok (list_of t) (λ trees. each ring_added trees before) after h in
    each-on_grid ring_added added-on_grid listed.0 before after listed.2 on

pub polygons-on_grid : (t : Tree) (before after : List (List Place)) → polygons_added t before ≡ Ok after → AreOnGrid before
    → AreOnGrid after
polygons-on_grid t before after h on =
    let listed = then-ok (list_of t) (λ trees. each polygon_added trees before) after h in
    each-on_grid polygon_added polygon-on_grid listed.0 before after listed.2 on
