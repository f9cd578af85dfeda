-- What the walk over a topology reads of polygons, of their collection, of towns and of the whole.
use Rattle.std.specs.Prelude.{codes}
use Rattle.std.proofs.Common.{◌≡◌, ℕ, suc, ◌+◌, ◌*◌, ◌^◌, ◌<◌, ◌≤◌, false, List, [], ◌∷◌, ◌++◌, length, map, Result, Ok, refl, sym, ap}
use Rattle.std.proofs.Common.{subst, ◌∙◌, arith, append_assoc, append-nil}
use Rattle.std.proofs.lemmas.List.{length-append}
use Rattle.grid_exact.specs.Geometry.{Place}
use Rattle.arc_map.specs.Map.{Map}
use Rattle.json_scan.specs.Tree.{Extent, extent_of, Tree, TextAt, ListAt, ObjectAt, Trees, NoTrees, NextTree, Entries, NoEntries, NextEntry}
use Rattle.topo_reader.specs.declared.fault.ReadFault.{ReadFault}
use Rattle.topo_reader.specs.declared.fault.What.TheVariants as what
use Rattle.topo_reader.specs.Sequence.{and_then}
use Rattle.topo_reader.specs.Geometries.{Seen, nothing_seen, with_points, PolygonRead, with_polygon, geometry_of, geometries_of}
use Rattle.topo_reader.specs.Geometries.{objects_from, objects_of}
use Rattle.topo_reader.specs.Reads.{TopologyRead, map_of, topology_of}
use Rattle.topo_reader.proofs.Counting.{counted-more}
use Rattle.topo_writer.proofs.TreeShapes.{IsListTree, AreTrees}
use Rattle.map_gen.proofs.TreeShapes.{IsTextTree, IsObjectTree, StartsWith, IsEnd, text-parts, list-parts, two-parts, three-parts}
use Rattle.map_gen.proofs.TreeArcs.{IsPositionTree, AreArcTrees, points-read}
use Rattle.map_gen.proofs.TreeRings.{AreRingTrees}

-- ---- polygons

-- one polygon more, with these arcs
abbrev pub with_ring : Seen → List ℕ → Seen
with_ring seen numbers = record { points = seen.points; polygons = seen.polygons ++ numbers ∷ []; references = seen.references + 4 }

-- the tree is a polygon of one ring of these arcs
abbrev pub IsPolygonTree : List (List Place) → List ℕ → Tree → Type 0
IsPolygonTree arcs numbers t = (seen : Seen) → length seen.polygons < 2 ^ 20 → seen.references + 4 ≤ 2 ^ 22
    → geometry_of arcs t seen ≡ Ok (with_ring seen numbers)

abbrev polygon_at : Extent → Extent → Extent → Extent → Tree → Tree
polygon_at e f g h rings = ObjectAt e (NextEntry f (codes "type") (TextAt g (codes "Polygon")) (NextEntry h (codes "arcs") rings NoEntries))

abbrev polygon_seen : Seen → PolygonRead → Result Seen ReadFault
polygon_seen seen polygon = Ok (with_polygon seen polygon)

polygon_at-read : (arcs : List (List Place)) (numbers : List ℕ) (e f g h : Extent) (rings : Tree) → AreRingTrees arcs numbers rings
    → IsPolygonTree arcs numbers (polygon_at e f g h rings)
polygon_at-read arcs numbers e f g h rings are seen few room =
    counted-more what.Polygons (2 ^ 20) (length seen.polygons) (polygon_at e f g h rings) _ few
    ∙ ap (λ (r : Result PolygonRead ReadFault). and_then r (polygon_seen seen)) (are seen.references room)

abbrev pub IsPolygonObject : List (List Place) → List ℕ → Entries → Type 0
IsPolygonObject arcs numbers = StartsWith (codes "type") (IsTextTree (codes "Polygon"))
    (StartsWith (codes "arcs") (AreRingTrees arcs numbers) IsEnd)

pub polygon-read : (arcs : List (List Place)) (numbers : List ℕ) (t : Tree) → IsObjectTree (IsPolygonObject arcs numbers) t
    → IsPolygonTree arcs numbers t
polygon-read arcs numbers t is =
    let o = two-parts (codes "type") (IsTextTree (codes "Polygon")) (codes "arcs") (AreRingTrees arcs numbers) t is in
    let word = text-parts (codes "Polygon") o.first o.first_is in
    let parts : t ≡ polygon_at o.at o.first_at word.at o.second_at o.second =
    o.parts ∙ ap (λ (u : Tree). ObjectAt o.at (NextEntry o.first_at (codes "type") u
    (NextEntry o.second_at (codes "arcs") o.second NoEntries))) word.parts in
    subst (IsPolygonTree arcs numbers) (sym parts) (polygon_at-read arcs numbers o.at o.first_at word.at o.second_at o.second o.second_is)

-- ---- a collection of polygons

abbrev pub with_rings : Seen → List (List ℕ) → ℕ → Seen
with_rings seen polygons count = record {
  points = seen.points;
  polygons = seen.polygons ++ polygons;
  references =
      seen.references + 4 * count;
}

same-seen : (points : List Place) (a b : List (List ℕ)) (m n : ℕ) → a ≡ b → m ≡ n
    → ◌≡◌ {A = Result Seen ReadFault} (Ok (record { points = points; polygons = a; references = m }))
    (Ok (record { points = points; polygons = b; references = n }))
same-seen points a b m n p q = rw (p, q) refl

pub polygons-read : {A : Type 0} (arcs : List (List Place)) (numbers : A → List ℕ) (ks : List A) (trees : Trees) (seen : Seen)
    → AreTrees (λ k t. IsPolygonTree arcs (numbers k) t) ks trees
    → length seen.polygons + length ks ≤ 2 ^ 20 → seen.references + 4 * length ks ≤ 2 ^ 22
    → geometries_of arcs trees seen ≡ Ok (with_rings seen (map numbers ks) (length ks))
polygons-read arcs numbers [] NoTrees seen are few room =
    let e : seen.references ≡ seen.references + 4 * 0 = omega arith in
    same-seen seen.points seen.polygons (seen.polygons ++ []) seen.references (seen.references + 4 * 0) (sym (append-nil seen.polygons)) e
polygons-read arcs numbers [] (NextTree t others) seen are few room = absurd are
polygons-read arcs numbers (k ∷ ks) NoTrees seen are few room = absurd are
polygons-read arcs numbers (k ∷ ks) (NextTree t others) seen are few room =
    let below : length seen.polygons < 2 ^ 20 = omega arith in
    let here : seen.references + 4 ≤ 2 ^ 22 = omega arith in
    let longer : length (seen.polygons ++ numbers k ∷ []) ≡ length seen.polygons + 1 = length-append seen.polygons (numbers k ∷ []) in
    let fewer : length (seen.polygons ++ numbers k ∷ []) + length ks ≤ 2 ^ 20 = omega (arith, longer) in
    let rest : (seen.references + 4) + 4 * length ks ≤ 2 ^ 22 = omega arith in
    let count : (seen.references + 4) + 4 * length ks ≡ seen.references + 4 * suc (length ks) = omega arith in
    ap (λ (r : Result Seen ReadFault). and_then r (geometries_of arcs others)) (are.0 seen below here)
    ∙ polygons-read arcs numbers ks others (with_ring seen (numbers k)) are.1 fewer rest
    ∙ same-seen seen.points ((seen.polygons ++ numbers k ∷ []) ++ map numbers ks) (seen.polygons ++ (numbers k ∷ map numbers ks))
    ((seen.references + 4) + 4 * length ks) (seen.references + 4 * suc (length ks))
    (append_assoc seen.polygons (numbers k ∷ []) (map numbers ks)) count

abbrev ArePolygons : {A : Type 0} → List (List Place) → (A → List ℕ) → List A → Trees → Type 0
ArePolygons arcs numbers ks = AreTrees (λ k t. IsPolygonTree arcs (numbers k) t) ks

abbrev cells_at : Extent → Extent → Extent → Extent → Extent → Trees → Tree
cells_at e f g h i trees = ObjectAt e (NextEntry f (codes "type") (TextAt g (codes "GeometryCollection"))
    (NextEntry h (codes "geometries") (ListAt i trees) NoEntries))

cells_at-read : {A : Type 0} (arcs : List (List Place)) (numbers : A → List ℕ) (ks : List A) (e f g h i : Extent) (trees : Trees)
    → length ks ≤ 2 ^ 20 → ArePolygons arcs numbers ks trees
    → geometry_of arcs (cells_at e f g h i trees) nothing_seen ≡ Ok
    (record { points = []; polygons = map numbers ks; references = 0 + 4 * length ks })
cells_at-read arcs numbers ks e f g h i trees few are =
    let fewer : 0 + length ks ≤ 2 ^ 20 = omega arith in
    let room : 0 + 4 * length ks ≤ 2 ^ 22 = omega arith in
    polygons-read arcs numbers ks trees nothing_seen are fewer room

abbrev pub IsCellsObject : {A : Type 0} → List (List Place) → (A → List ℕ) → List A → Entries → Type 0
IsCellsObject arcs numbers ks = StartsWith (codes "type") (IsTextTree (codes "GeometryCollection"))
    (StartsWith (codes "geometries") (IsListTree (AreTrees (λ k t. IsPolygonTree arcs (numbers k) t) ks)) IsEnd)

-- what is read where the cells are collected
abbrev pub HoldsCells : List (List Place) → List (List ℕ) → ℕ → Tree → Type 0
HoldsCells arcs polygons count t = geometry_of arcs t nothing_seen ≡ Ok (record { points = []; polygons = polygons; references = count })

pub cells-read : {A : Type 0} (arcs : List (List Place)) (numbers : A → List ℕ) (ks : List A) (t : Tree) → length ks ≤ 2 ^ 20
    → IsObjectTree (IsCellsObject arcs numbers ks) t → HoldsCells arcs (map numbers ks) (0 + 4 * length ks) t
cells-read arcs numbers ks t few is =
    let o = two-parts (codes "type") (IsTextTree (codes "GeometryCollection")) (codes "geometries")
    (IsListTree (ArePolygons arcs numbers ks)) t is in
    let word = text-parts (codes "GeometryCollection") o.first o.first_is in
    let list = list-parts (ArePolygons arcs numbers ks) o.second o.second_is in
    let parts : t ≡ cells_at o.at o.first_at word.at o.second_at list.at list.trees =
    o.parts
    ∙ ap (λ (u : Tree). ObjectAt o.at (NextEntry o.first_at (codes "type") u
    (NextEntry o.second_at (codes "geometries") o.second NoEntries))) word.parts
    ∙ ap (λ (u : Tree). ObjectAt o.at (NextEntry o.first_at (codes "type") (TextAt word.at (codes "GeometryCollection"))
    (NextEntry o.second_at (codes "geometries") u NoEntries))) list.parts in
    subst (HoldsCells arcs (map numbers ks) (0 + 4 * length ks)) (sym parts)
    (cells_at-read arcs numbers ks o.at o.first_at word.at o.second_at list.at list.trees few list.are)

-- ---- towns

abbrev AreTowns : {A : Type 0} → (A → Place) → List A → Trees → Type 0
AreTowns place ks = AreTrees (λ k t. IsPositionTree (place k) t) ks

abbrev towns_at : Extent → Extent → Extent → Extent → Extent → Trees → Tree
towns_at e f g h i trees = ObjectAt e (NextEntry f (codes "type") (TextAt g (codes "MultiPoint"))
    (NextEntry h (codes "coordinates") (ListAt i trees) NoEntries))

-- the tree holds these points, behind polygons and references that were seen
abbrev pub HoldsTowns : List (List Place) → List Place → Tree → Type 0
HoldsTowns arcs points t = (polygons : List (List ℕ)) → (references : ℕ)
    → geometry_of arcs t (record { points = []; polygons = polygons; references = references })
    ≡ Ok (record { points = points; polygons = polygons; references = references })

towns_at-read : {A : Type 0} (arcs : List (List Place)) (place : A → Place) (ks : List A) (e f g h i : Extent) (trees : Trees)
    → length ks ≤ 2 ^ 20 → AreTowns place ks trees → HoldsTowns arcs (map place ks) (towns_at e f g h i trees)
towns_at-read arcs place ks e f g h i trees few are polygons references =
    let fewer : 0 + length ks ≤ 2 ^ 20 = omega arith in
    ap (with_points (record { points = []; polygons = polygons; references = references })) (points-read place [] ks trees are fewer)

abbrev pub IsTownsObject : {A : Type 0} → (A → Place) → List A → Entries → Type 0
IsTownsObject place ks = StartsWith (codes "type") (IsTextTree (codes "MultiPoint"))
    (StartsWith (codes "coordinates") (IsListTree (AreTrees (λ k t. IsPositionTree (place k) t) ks)) IsEnd)

pub towns-read : {A : Type 0} (arcs : List (List Place)) (place : A → Place) (ks : List A) (t : Tree) → length ks ≤ 2 ^ 20
    → IsObjectTree (IsTownsObject place ks) t → HoldsTowns arcs (map place ks) t
towns-read arcs place ks t few is =
    let o = two-parts (codes "type") (IsTextTree (codes "MultiPoint")) (codes "coordinates") (IsListTree (AreTowns place ks)) t is in
    let word = text-parts (codes "MultiPoint") o.first o.first_is in
    let list = list-parts (AreTowns place ks) o.second o.second_is in
    let parts : t ≡ towns_at o.at o.first_at word.at o.second_at list.at list.trees =
    o.parts
    ∙ ap (λ (u : Tree). ObjectAt o.at (NextEntry o.first_at (codes "type") u
    (NextEntry o.second_at (codes "coordinates") o.second NoEntries))) word.parts
    ∙ ap (λ (u : Tree). ObjectAt o.at (NextEntry o.first_at (codes "type") (TextAt word.at (codes "MultiPoint"))
    (NextEntry o.second_at (codes "coordinates") u NoEntries))) list.parts in
    subst (HoldsTowns arcs (map place ks)) (sym parts) (towns_at-read arcs place ks o.at o.first_at word.at o.second_at list.at list.trees
    few list.are)

-- ---- the objects

abbrev pub HoldsObjects : List (List Place) → List Place → List (List ℕ) → Tree → Type 0
HoldsObjects arcs points polygons t = (count : ℕ)
    × (objects_of arcs t nothing_seen ≡ Ok (record { points = points; polygons = polygons; references = count }))

abbrev pub IsObjectsObject : List (List Place) → List Place → List (List ℕ) → ℕ → Entries → Type 0
IsObjectsObject arcs points polygons count = StartsWith (codes "cells") (HoldsCells arcs polygons count)
    (StartsWith (codes "towns") (HoldsTowns arcs points) IsEnd)

pub objects-read : (arcs : List (List Place)) (points : List Place) (polygons : List (List ℕ)) (count : ℕ) (t : Tree)
    → IsObjectTree (IsObjectsObject arcs points polygons count) t → HoldsObjects arcs points polygons t
objects-read arcs points polygons count t is =
    let o = two-parts (codes "cells") (HoldsCells arcs polygons count) (codes "towns") (HoldsTowns arcs points) t is in (
      count,
      ap (λ (u : Tree). objects_of arcs u nothing_seen) o.parts
          ∙ ap (λ (r : Result Seen ReadFault). and_then r (objects_from arcs (NextEntry o.second_at (codes "towns") o.second NoEntries)))
          o.first_is
          ∙ ap (λ (r : Result Seen ReadFault). and_then r (objects_from arcs NoEntries)) (o.second_is polygons count),
    )

-- ---- the topology

abbrev pub HoldsTopology : Map → Tree → Type 0
HoldsTopology m t = (at : Extent) × (topology_of t ≡ Ok (record { map = m; arcs_at = at }))

abbrev topology_at : Extent → Extent → Extent → Extent → Extent → Tree → Tree → Tree
topology_at e f g h i objects arcs = ObjectAt e (NextEntry f (codes "type") (TextAt g (codes "Topology"))
    (NextEntry h (codes "objects") objects (NextEntry i (codes "arcs") arcs NoEntries)))

abbrev plain_map : List (List Place) → List Place → List (List ℕ) → Map
plain_map arcs points polygons = record { arcs = arcs; points = points; polygons = polygons; coded = false }

abbrev map_seen : List (List Place) → Seen → Result Map ReadFault
map_seen arcs seen = Ok (plain_map arcs seen.points seen.polygons)

abbrev read_at : Extent → Map → Result TopologyRead ReadFault
read_at at m = Ok (record { map = m; arcs_at = at })

abbrev topology_members : Extent → Extent → Extent → Extent → Tree → Tree → Entries
topology_members f g h i objects arcs = NextEntry f (codes "type") (TextAt g (codes "Topology"))
    (NextEntry h (codes "objects") objects (NextEntry i (codes "arcs") arcs NoEntries))

topology_at-read : (arcs : List (List Place)) (points : List Place) (polygons : List (List ℕ)) (e f g h i : Extent) (objects value : Tree)
    → HoldsObjects arcs points polygons objects → AreArcTrees arcs value
    → HoldsTopology (plain_map arcs points polygons) (topology_at e f g h i objects value)
topology_at-read arcs points polygons e f g h i objects value holds are = (
  extent_of value,
  ap (λ (r : Result (List (List Place)) ReadFault). and_then r (λ (read : List (List Place)).
      and_then (map_of false read (topology_at e f g h i objects value) (topology_members f g h i objects value))
      (read_at (extent_of value)))) are
      ∙ ap (λ (r : Result Seen ReadFault). and_then (and_then r (map_seen arcs)) (read_at (extent_of value))) holds.1,
)

abbrev pub IsTopologyObject : List (List Place) → List Place → List (List ℕ) → Entries → Type 0
IsTopologyObject arcs points polygons =
    StartsWith (codes "type") (IsTextTree (codes "Topology")) (StartsWith (codes "objects") (HoldsObjects arcs points polygons)
    (StartsWith (codes "arcs") (AreArcTrees arcs) IsEnd))

pub topology-read : (arcs : List (List Place)) (points : List Place) (polygons : List (List ℕ)) (t : Tree)
    → IsObjectTree (IsTopologyObject arcs points polygons) t → HoldsTopology (plain_map arcs points polygons) t
topology-read arcs points polygons t is =
    let o = three-parts (codes "type") (IsTextTree (codes "Topology")) (codes "objects") (HoldsObjects arcs points polygons) (codes "arcs")
    (AreArcTrees arcs) t is in
    let word = text-parts (codes "Topology") o.first o.first_is in
    let parts : t ≡ topology_at o.at o.first_at word.at o.second_at o.third_at o.second o.third =
    o.parts ∙ ap (λ (u : Tree). ObjectAt o.at (NextEntry o.first_at (codes "type") u
    (NextEntry o.second_at (codes "objects") o.second (NextEntry o.third_at (codes "arcs") o.third NoEntries)))) word.parts in
    subst (HoldsTopology (plain_map arcs points polygons)) (sym parts)
    (topology_at-read arcs points polygons o.at o.first_at word.at o.second_at o.third_at o.second o.third o.second_is o.third_is)
