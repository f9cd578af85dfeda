-- The texts of geometries are read as the geometries.
use Rattle.std.specs.Prelude.{codes, sum}
use Rattle.std.proofs.Common.{◌≡◌, ℕ, suc, ◌+◌, ◌-◌, ◌^◌, ◌<◌, ◌≤◌, Bool, true, false, bytes_eq, cond, Option, Some, None, List, [], ◌∷◌}
use Rattle.std.proofs.Common.{◌++◌, length, take, drop, sum_by, ℤ, Result, Ok, Err, refl, sym, ap, subst, ◌∙◌, arith, append_assoc}
use Rattle.std.proofs.Common.{append-nil}
use Rattle.std.specs.List.{AllByRecursion}
use Rattle.std.proofs.lemmas.Bool.{cond-true, cond-false}
use Rattle.std.proofs.lemmas.List.{length-append, take_all, take-append-drop, take-append-le, drop-append-le, length-take, length-drop}
use Rattle.std.proofs.lemmas.List.Sums.{sum_by-append, sum_by-cons}
use Rattle.grid_exact.specs.Geometry.{Place}
use Rattle.json_scan.specs.Parts.{is_text}
use Rattle.json_scan.specs.Tree.{Extent, Tree, NullAt, FalseAt, TrueAt, NumberAt, TextAt, ListAt, ObjectAt, Trees, NoTrees, NextTree}
use Rattle.json_scan.specs.Tree.{Entries, NoEntries, NextEntry, OnceIn, lookup}
use Rattle.topo_reader.specs.Sequence.{and_then}
use Rattle.topo_reader.specs.declared.geometry.Geometry.{Geometry as Kind}
use Rattle.topo_reader.specs.declared.geometry.Geometry.TheVariants as kind
use Rattle.topo_reader.specs.Geometries.{text_geometry, rings_of, polygons_of}
use Rattle.topo_reader.proofs.ArcLaws.{not-ok, same-ok, then-ok}
use Rattle.topo_reader.proofs.Lookups.{once-among, once-first, once-later}
use Rattle.topo_writer.proofs.TreeShapes.{IsListTree}
use Rattle.topo_build.specs.References.{polygons_of as polygons_named}
use Rattle.geo_reader.specs.declared.fault.GeoFault.{GeoFault}
use Rattle.geo_reader.specs.declared.geometry.Geometry.{Geometry}
use Rattle.geo_reader.specs.declared.geometry.Geometry.TheVariants as geometry
use Rattle.geo_reader.specs.Geo.{Geo}
use Rattle.geo_reader.specs.Steps.{required}
use Rattle.geo_reader.specs.Rings.{polygon_added, polygons_added}
use Rattle.geo_reader.specs.Geometries.{named_by, named_geometry, geometry_kind, point_added, points_added, polygon_closed, of_kind}
use Rattle.geo_reader.specs.Geometries.{geometry_in, geometry_of, collection_of, geometry_list, geometries_of}
use Rattle.geo_reader.proofs.RingLaws.{below-ok}
use Rattle.geo_reader.proofs.Holding.{required-once}
use Rattle.geo_text.specs.declared.shape.Shape.{Shape}
use Rattle.geo_text.specs.declared.shape.Shape.TheVariants as shape
use Rattle.geo_text.specs.Shapes.{once, value_in, named_shape, found_shape, shape_of, type_text}
use Rattle.geo_text.specs.Drafts.{Draft, written, where_some, with_ring, with_point, with_comma, each_added, list_added}
use Rattle.geo_text.specs.BuiltText.{member, contents_of, opened, contents, collected, geometries, geometry as written_geometry}
use Rattle.geo_text.specs.BuiltText.{geometry_list as written_list}
use Rattle.geo_text.proofs.Readable.{IsLoop}
use Rattle.geo_text.proofs.Words.{IsTextTree, IsObjectTree, StartsWith, are_letters, quoted, word-spelled}
use Rattle.geo_text.proofs.Told.{Told, told-from, told-so, ToldRest, rest-last, entry-told, member_text}
use Rattle.geo_text.proofs.Loops.{Reads, numbers_of}
use Rattle.geo_text.proofs.Depths.{tree_depth, trees_depth, entries_depth, among-depth}
use Rattle.geo_text.proofs.Adding.{draft, Adds, written-adds, then-adds, Done, DoneEach, none-done, next-done, list-done}
use Rattle.geo_text.proofs.RingsWritten.{loops-take, loops-drop, polygon-done, polygons-done, polygon-grows, polygons-grow}
use Rattle.geo_text.proofs.RingsOnGrid.{AreOnGrid, polygon-on_grid, polygons-on_grid}
use Rattle.geo_text.proofs.PointsWritten.{PointRead, PointsRead, one_point-done, list_of_points-done}
use Rattle.geo_text.proofs.EntriesRead.{GeometryReads, GeometriesRead, none-read, next-read, Behind, behind-value, Ready, entry-read}
use Rattle.geo_text.proofs.EntriesRead.{point-ready, points-ready, polygon-ready, polygons-ready, collection-ready}

-- ---- kinds

abbrev shape_for : Geometry → Shape
shape_for geometry.Point = shape.Point
shape_for geometry.MultiPoint = shape.MultiPoint
shape_for geometry.Polygon = shape.Polygon
shape_for geometry.MultiPolygon = shape.MultiPolygon
shape_for geometry.GeometryCollection = shape.GeometryCollection

chain : (a b c d e : Bool) (k : Geometry)
    → cond a (Some geometry.Point) (cond b (Some geometry.MultiPoint)
    (cond c (Some geometry.Polygon) (cond d (Some geometry.MultiPolygon) (cond e (Some geometry.GeometryCollection) None)))) ≡ Some k
    → cond a shape.Point (cond b shape.MultiPoint
    (cond c shape.Polygon (cond d shape.MultiPolygon (cond e shape.GeometryCollection shape.Nothing)))) ≡ shape_for k
chain true b c d e k h = let same : geometry.Point ≡ k = cc in ap shape_for same
chain false true c d e k h = let same : geometry.MultiPoint ≡ k = cc in ap shape_for same
chain false false true d e k h = let same : geometry.Polygon ≡ k = cc in ap shape_for same
chain false false false true e k h = let same : geometry.MultiPolygon ≡ k = cc in ap shape_for same
chain false false false false true k h = let same : geometry.GeometryCollection ≡ k = cc in ap shape_for same
chain false false false false false k h = absurd cc

shape-named : (t : Tree) (k : Geometry) → named_by t ≡ Some k → named_shape t ≡ shape_for k
shape-named (NullAt e) k h = absurd cc
shape-named (FalseAt e) k h = absurd cc
shape-named (TrueAt e) k h = absurd cc
shape-named (NumberAt e whole) k h = absurd cc
shape-named (TextAt e word) k h =
    chain (bytes_eq word (codes "Point")) (bytes_eq word (codes "MultiPoint")) (bytes_eq word (codes "Polygon"))
    (bytes_eq word (codes "MultiPolygon")) (bytes_eq word (codes "GeometryCollection")) k h
shape-named (ListAt e trees) k h = absurd cc
shape-named (ObjectAt e members) k h = absurd cc

named-kind : (t : Tree) (o : Option Geometry) (k : Geometry) → named_geometry t o ≡ Ok k → o ≡ Some k
named-kind t None k h = not-ok _ k h
named-kind t (Some g) k h = ap (λ (a : Geometry). Some a) (same-ok g k h)

pub found-value : (name : List ℕ) (holder : Tree) (members : Entries) (value : Tree) → required name holder members ≡ Ok value
    → value_in name members ≡ Some value
found-value name holder members value h = ap once (required-once name holder members value (sym h))

-- a geometry that was read has this shape
kind-shape : (e : Extent) (members : Entries) (k : Geometry) → geometry_kind (ObjectAt e members) members ≡ Ok k
    → shape_of (ObjectAt e members) ≡ shape_for k
kind-shape e members k h =
    let type = then-ok (required (codes "type") (ObjectAt e members) members) (λ value. named_geometry value (named_by value)) k h in
    ap found_shape (found-value (codes "type") (ObjectAt e members) members type.0 type.1)
    ∙ shape-named type.0 k (named-kind type.0 (named_by type.0) k type.2)

abbrev pub word_for : Geometry → List ℕ
word_for geometry.Point = codes "Point"
word_for geometry.MultiPoint = codes "MultiPoint"
word_for geometry.Polygon = codes "Polygon"
word_for geometry.MultiPolygon = codes "MultiPolygon"
word_for geometry.GeometryCollection = codes "GeometryCollection"

abbrev pub kind_for : Geometry → Kind
kind_for geometry.Point = kind.Point
kind_for geometry.MultiPoint = kind.MultiPoint
kind_for geometry.Polygon = kind.Polygon
kind_for geometry.MultiPolygon = kind.MultiPolygon
kind_for geometry.GeometryCollection = kind.GeometryCollection

-- the name of what a geometry of a kind holds
abbrev pub name_for : Geometry → List ℕ
name_for geometry.Point = codes "coordinates"
name_for geometry.MultiPoint = codes "coordinates"
name_for geometry.Polygon = codes "arcs"
name_for geometry.MultiPolygon = codes "arcs"
name_for geometry.GeometryCollection = codes "geometries"

pub word-kind : (k : Geometry) → text_geometry (word_for k) ≡ Some (kind_for k)
word-kind geometry.Point = refl
word-kind geometry.MultiPoint = refl
word-kind geometry.Polygon = refl
word-kind geometry.MultiPolygon = refl
word-kind geometry.GeometryCollection = refl

pub word-letters : (k : Geometry) → are_letters (word_for k) ≡ true
word-letters geometry.Point = refl
word-letters geometry.MultiPoint = refl
word-letters geometry.Polygon = refl
word-letters geometry.MultiPolygon = refl
word-letters geometry.GeometryCollection = refl

word-quoted : (k : Geometry) → type_text (shape_for k) ≡ quoted (word_for k)
word-quoted geometry.Point = refl
word-quoted geometry.MultiPoint = refl
word-quoted geometry.Polygon = refl
word-quoted geometry.MultiPolygon = refl
word-quoted geometry.GeometryCollection = refl

pub name-other : (k : Geometry) → bytes_eq (codes "type") (name_for k) ≡ false
name-other geometry.Point = refl
name-other geometry.MultiPoint = refl
name-other geometry.Polygon = refl
name-other geometry.MultiPolygon = refl
name-other geometry.GeometryCollection = refl

-- ---- what a geometry holds

-- how what a geometry holds is written, and read
pub record ContentsDone (arcs : List (List Place)) (t : Tree) (rings : List (List ℤ)) (points : List Place) (rest : List (List ℤ))
    (left : List Place) (ps : List Place) (gs : List (List ℕ)) (n : ℕ) : Type 0 where
  pub its_kind : Geometry
  pub shape_is : type_text (shape_of t) ≡ quoted (word_for its_kind)
  pub word : List ℕ
  pub adds : Adds (contents t) rings points word rest left
  pub told : (depth : ℕ) → tree_depth t ≤ depth + 1
      → ToldRest (Behind (name_for its_kind) (Ready arcs (kind_for its_kind) (name_for its_kind) ps gs n)) depth word

-- what was read between two states of the walk: these points, and polygons of so many rings; and how it is written
pub record Walked (arcs : List (List Place)) (before after : Geo)
    (Writes : List Place → List ℕ → List (List ℤ) → List (List ℤ) → List Place → Type 0) : Type 0 where
  pub points : List Place
  pub counts : List ℕ
  pub points_are : after.points ≡ before.points ++ points
  pub counts_are : after.polygons ≡ before.polygons ++ counts
  pub rings_are : length after.rings ≡ length before.rings + sum counts
  pub on_grid : AreOnGrid before.rings → AreOnGrid after.rings
  pub write : (own rest : List (List ℤ)) (left : List Place) → sum counts ≡ length own → AllByRecursion (IsLoop arcs) own
      → Writes points counts own rest left

abbrev pub WritesContents : List (List Place) → Tree → List Place → List ℕ → List (List ℤ) → List (List ℤ) → List Place → Type 0
WritesContents arcs t points counts own rest left = ContentsDone arcs t (own ++ rest) (points ++ left) rest left points
    (polygons_named counts own) (sum_by length own)

-- a value is written as one entry
abbrev pub WritesEntry : List (List Place) → (Draft → Draft) → ℕ → List Place → List ℕ → List (List ℤ) → List (List ℤ) → List Place → Type 0
WritesEntry arcs part depth points counts own rest left = Done part (own ++ rest) (points ++ left)
    (GeometryReads arcs points (polygons_named counts own) (sum_by length own)) depth rest left

-- a part is written as a list of entries
abbrev pub WritesEntries : List (List Place) → (Draft → Draft) → ℕ → List Place → List ℕ → List (List ℤ) → List (List ℤ) → List Place
    → Type 0
WritesEntries arcs part depth points counts own rest left = Done part (own ++ rest) (points ++ left)
    (IsListTree (GeometriesRead arcs points (polygons_named counts own) (sum_by length own))) depth rest left

abbrev pub WritesEach : List (List Place) → (Tree → Draft → Draft) → Trees → List Place → List ℕ → List (List ℤ) → List (List ℤ)
    → List Place → Type 0
WritesEach arcs one trees points counts own rest left =
    DoneEach one trees (own ++ rest) (points ++ left) (GeometriesRead arcs points (polygons_named counts own) (sum_by length own))
    (trees_depth trees) rest left

abbrev pub WritesCollection : List (List Place) → Entries → Tree → List Place → List ℕ → List (List ℤ) → List (List ℤ) → List Place → Type 0
WritesCollection arcs members value points counts own rest left =
    Done (collected members) (own ++ rest) (points ++ left)
    (IsListTree (GeometriesRead arcs points (polygons_named counts own) (sum_by length own))) (tree_depth value) rest left

pub part-adds : (part : Tree → Draft → Draft) (label name : List ℕ) (members : Entries) (value : Tree) (r : List (List ℤ)) (p : List Place)
    (w : List ℕ) (s : List (List ℤ)) (q : List Place) → value_in name members ≡ Some value → Adds (part value) r p w s q
    → Adds (where_some (value_in name members) (member label part)) r p (label ++ w) s q
part-adds part label name members value r p w s q found adds text =
    ap (λ (o : Option Tree). where_some o (member label part) (draft text r p)) found
    ∙ then-adds (written label) (part value) r p label r p w s q (written-adds label r p) adds text

contents-are : (e : Extent) (members : Entries) (k : Geometry) (r : List (List ℤ)) (p : List Place) (w : List ℕ) (s : List (List ℤ))
    (q : List Place) → shape_of (ObjectAt e members) ≡ shape_for k → Adds (contents_of (shape_for k) members (collected members)) r p w s q
    → Adds (contents (ObjectAt e members)) r p w s q
contents-are e members k r p w s q shape adds text = ap (λ (a : Shape). contents_of a members (collected members) (draft text r p)) shape
    ∙ adds text

-- the value of the member is written as this part, and read so
contents-done : (arcs : List (List Place)) (e : Extent) (members : Entries) (k : Geometry) (r : List (List ℤ)) (p : List Place)
    (s : List (List ℤ)) (q ps : List Place) (gs : List (List ℕ)) (n : ℕ) (P : Tree → Type 0) (name : List ℕ) (value : Tree)
    (part : Draft → Draft) → shape_of (ObjectAt e members) ≡ shape_for k → are_letters (name_for k) ≡ true
    → bytes_eq (name_for k) (codes "type") ≡ false → bytes_eq (name_for k) (name_for k) ≡ true
    → lookup name members ≡ OnceIn value → ((u : Tree) → P u → Ready arcs (kind_for k) (name_for k) ps gs n u)
    → (d : Done part r p P (tree_depth value) s q)
    → Adds (contents_of (shape_for k) members (collected members)) r p (44 ∷ member_text (name_for k) d.word) s q
    → ContentsDone arcs (ObjectAt e members) r p s q ps gs n
contents-done arcs e members k r p s q ps gs n P name value part shape letters other same found ready d adds =
    let among = among-depth value members (once-among name members value found) in
    let Reading = Ready arcs (kind_for k) (name_for k) ps gs n in
    record {
      its_kind = k;
      shape_is = ap type_text shape ∙ word-quoted k;
      word = 44 ∷ member_text (name_for k) d.word;
      adds = contents-are e members k r p (44 ∷ member_text (name_for k) d.word) s q shape adds;
      told = λ depth deep.
          rest-last Reading (Behind (name_for k) Reading) depth (name_for k) d.word letters
          (λ ms is. behind-value (name_for k) Reading ms other same is)
          (told-so P Reading (tree_depth value) depth d.word ready (omega (arith, among, deep)) d.told);
    }

pub no-own : (own : List (List ℤ)) → sum [] ≡ length own → own ≡ []
no-own [] none = refl
no-own (refs ∷ own) none = absurd (omega (arith, none))

own-one : (c : ℕ) (own : List (List ℤ)) → sum (c ∷ []) ≡ length own → polygons_named (c ∷ []) own ≡ numbers_of own ∷ []
own-one c own one =
    let long : length own ≤ c = omega (arith, one) in
    ap (λ (l : List (List ℤ)). numbers_of l ∷ []) (take_all c own long)

module _ (arcs : List (List Place)) (few : length arcs ≤ 2 ^ 20) where
  point-walked : (e : Extent) (members : Entries) (before after : Geo) → shape_of (ObjectAt e members) ≡ shape_for geometry.Point
      → of_kind geometry.Point (ObjectAt e members) members (collection_of members) before ≡ Ok after
      → Walked arcs before after (WritesContents arcs (ObjectAt e members))
  point-walked e members before after shape h =
      let value = then-ok (required (codes "coordinates") (ObjectAt e members) members)
      (λ v. and_then (point_added v before.points) (λ points. Ok (record before { points = points }))) after h in
      let added = then-ok (point_added value.0 before.points) (λ points. Ok (record before { points = points })) after value.2 in
      let same = same-ok (record before { points = added.0 }) after added.2 in
      let one = one_point-done value.0 before.points added.0 added.1 in
      let found = required-once (codes "coordinates") (ObjectAt e members) members value.0 (sym value.1) in
      record {
        points = one.point ∷ [];
        counts = [];
        points_are = ap (λ (g : Geo). g.points) (sym same) ∙ one.after_is;
        counts_are = ap (λ (g : Geo). g.polygons) (sym same) ∙ sym (append-nil before.polygons);
        rings_are = omega (arith, ap (λ (g : Geo). length g.rings) (sym same));
        on_grid = λ on. subst AreOnGrid (ap (λ (g : Geo). g.rings) same) on;
        write = λ own rest left none loops.
            subst (λ (l : List (List ℤ)). WritesContents arcs (ObjectAt e members) (one.point ∷ []) [] l rest left) (sym (no-own own none))
            (contents-done arcs e members geometry.Point rest (one.point ∷ left) rest left (one.point ∷ []) [] 0 (PointRead one.point)
            (codes "coordinates") value.0 with_point shape refl refl refl found
            (point-ready arcs one.point) (one.done rest left)
            (part-adds (λ t. with_point) (codes ",\"coordinates\":") (codes "coordinates") members value.0 rest (one.point ∷ left)
            (one.done rest left).word rest left (ap once found) (one.done rest left).adds));
      }

  points-walked : (e : Extent) (members : Entries) (before after : Geo) → shape_of (ObjectAt e members) ≡ shape_for geometry.MultiPoint
      → of_kind geometry.MultiPoint (ObjectAt e members) members (collection_of members) before ≡ Ok after
      → Walked arcs before after (WritesContents arcs (ObjectAt e members))
  points-walked e members before after shape h =
      let value = then-ok (required (codes "coordinates") (ObjectAt e members) members)
      (λ v. and_then (points_added v before.points) (λ points. Ok (record before { points = points }))) after h in
      let added = then-ok (points_added value.0 before.points) (λ points. Ok (record before { points = points })) after value.2 in
      let same = same-ok (record before { points = added.0 }) after added.2 in
      let list = list_of_points-done value.0 before.points added.0 added.1 in
      let found = required-once (codes "coordinates") (ObjectAt e members) members value.0 (sym value.1) in
      record {
        points = list.own;
        counts = [];
        points_are = ap (λ (g : Geo). g.points) (sym same) ∙ list.after_is;
        counts_are = ap (λ (g : Geo). g.polygons) (sym same) ∙ sym (append-nil before.polygons);
        rings_are = omega (arith, ap (λ (g : Geo). length g.rings) (sym same));
        on_grid = λ on. subst AreOnGrid (ap (λ (g : Geo). g.rings) same) on;
        write = λ own rest left none loops.
            subst (λ (l : List (List ℤ)). WritesContents arcs (ObjectAt e members) list.own [] l rest left) (sym (no-own own none))
            (contents-done arcs e members geometry.MultiPoint rest (list.own ++ left) rest left list.own [] 0
            (IsListTree (PointsRead list.own)) (codes "coordinates") value.0 (list_added (λ t. with_point) value.0) shape refl refl refl
            found
            (points-ready arcs list.own) (list.done rest left)
            (part-adds (list_added (λ t. with_point)) (codes ",\"coordinates\":") (codes "coordinates") members value.0 rest
            (list.own ++ left) (list.done rest left).word rest left (ap once found) (list.done rest left).adds));
      }

  polygon-walked : (e : Extent) (members : Entries) (before after : Geo) → shape_of (ObjectAt e members) ≡ shape_for geometry.Polygon
      → of_kind geometry.Polygon (ObjectAt e members) members (collection_of members) before ≡ Ok after
      → Walked arcs before after (WritesContents arcs (ObjectAt e members))
  polygon-walked e members before after shape h =
      let counted = below-ok (length before.polygons) (2 ^ 20) _ _ after h in
      let value = then-ok (required (codes "coordinates") (ObjectAt e members) members)
      (λ v. and_then (polygon_added v before.rings) (λ rings. Ok (polygon_closed before rings))) after counted.1 in
      let added = then-ok (polygon_added value.0 before.rings) (λ rings. Ok (polygon_closed before rings)) after value.2 in
      let same = same-ok (polygon_closed before added.0) after added.2 in
      let grows = polygon-grows value.0 before.rings added.0 added.1 in
      let count = length added.0 - length before.rings in
      let found = required-once (codes "coordinates") (ObjectAt e members) members value.0 (sym value.1) in
      record {
        points = [];
        counts = count ∷ [];
        points_are = ap (λ (g : Geo). g.points) (sym same) ∙ sym (append-nil before.points);
        counts_are = ap (λ (g : Geo). g.polygons) (sym same);
        rings_are = omega (arith, ap (λ (g : Geo). length g.rings) (sym same), grows);
        on_grid = λ on. subst AreOnGrid (ap (λ (g : Geo). g.rings) same) (polygon-on_grid value.0 before.rings added.0 added.1 on);
        write = λ own rest left one loops.
            let long : length added.0 ≡ length before.rings + length own = omega (arith, one, grows) in
            let done = polygon-done arcs value.0 before.rings added.0 own rest left few added.1 long loops in
            subst (λ (gs : List (List ℕ)). ContentsDone arcs (ObjectAt e members) (own ++ rest) left rest left [] gs (sum_by length own))
            (sym (own-one count own one))
            (contents-done arcs e members geometry.Polygon (own ++ rest) left rest left [] (numbers_of own ∷ []) (sum_by length own)
            (Reads (rings_of arcs) own) (codes "coordinates") value.0 (list_added (λ t. with_ring) value.0) shape refl refl refl found
            (polygon-ready arcs own) done
            (part-adds (list_added (λ t. with_ring)) (codes ",\"arcs\":") (codes "coordinates") members value.0 (own ++ rest) left done.word
            rest left (ap once found) done.adds));
      }

  polygons-walked : (e : Extent) (members : Entries) (before after : Geo) → shape_of (ObjectAt e members) ≡ shape_for geometry.MultiPolygon
      → of_kind geometry.MultiPolygon (ObjectAt e members) members (collection_of members) before ≡ Ok after
      → Walked arcs before after (WritesContents arcs (ObjectAt e members))
  polygons-walked e members before after shape h =
      let counted = below-ok (length before.polygons) (2 ^ 20) _ _ after h in
      let value = then-ok (required (codes "coordinates") (ObjectAt e members) members)
      (λ v. and_then (polygons_added v before.rings) (λ rings. Ok (polygon_closed before rings))) after counted.1 in
      let added = then-ok (polygons_added value.0 before.rings) (λ rings. Ok (polygon_closed before rings)) after value.2 in
      let same = same-ok (polygon_closed before added.0) after added.2 in
      let grows = polygons-grow value.0 before.rings added.0 added.1 in
      let count = length added.0 - length before.rings in
      let found = required-once (codes "coordinates") (ObjectAt e members) members value.0 (sym value.1) in
      record {
        points = [];
        counts = count ∷ [];
        points_are = ap (λ (g : Geo). g.points) (sym same) ∙ sym (append-nil before.points);
        counts_are = ap (λ (g : Geo). g.polygons) (sym same);
        rings_are = omega (arith, ap (λ (g : Geo). length g.rings) (sym same), grows);
        on_grid = λ on. subst AreOnGrid (ap (λ (g : Geo). g.rings) same) (polygons-on_grid value.0 before.rings added.0 added.1 on);
        write = λ own rest left one loops.
            let long : length added.0 ≡ length before.rings + length own = omega (arith, one, grows) in
            let done = polygons-done arcs value.0 before.rings added.0 own rest left few added.1 long loops in
            subst (λ (gs : List (List ℕ)). ContentsDone arcs (ObjectAt e members) (own ++ rest) left rest left [] gs (sum_by length own))
            (sym (own-one count own one))
            (contents-done arcs e members geometry.MultiPolygon (own ++ rest) left rest left [] (numbers_of own ∷ []) (sum_by length own)
            (Reads (polygons_of arcs) own) (codes "coordinates") value.0 (list_added (list_added (λ t. with_ring)) value.0) shape refl refl
            refl found
            (polygons-ready arcs own) done
            (part-adds (list_added (list_added (λ t. with_ring))) (codes ",\"arcs\":") (codes "coordinates") members value.0 (own ++ rest)
            left done.word rest left (ap once found) done.adds));
      }

  collection-walked : (e : Extent) (members : Entries) (before after : Geo)
      → shape_of (ObjectAt e members) ≡ shape_for geometry.GeometryCollection
      → ((value : Tree) → lookup (codes "geometries") members ≡ OnceIn value → collection_of members before ≡ Ok after
      → Walked arcs before after (WritesCollection arcs members value))
      → of_kind geometry.GeometryCollection (ObjectAt e members) members (collection_of members) before ≡ Ok after
      → Walked arcs before after (WritesContents arcs (ObjectAt e members))
  collection-walked e members before after shape inner h =
      let value = then-ok (required (codes "geometries") (ObjectAt e members) members) (λ v. collection_of members before) after h in
      let found = required-once (codes "geometries") (ObjectAt e members) members value.0 (sym value.1) in
      let walked = inner value.0 found value.2 in
      record {
        points = walked.points;
        counts = walked.counts;
        points_are = walked.points_are;
        counts_are = walked.counts_are;
        rings_are = walked.rings_are;
        on_grid = walked.on_grid;
        write = λ own rest left long loops.
            let done = walked.write own rest left long loops in
            let ps = walked.points in
            let gs = polygons_named walked.counts own in
            contents-done arcs e members geometry.GeometryCollection (own ++ rest) (ps ++ left) rest left ps gs (sum_by length own)
            (IsListTree (GeometriesRead arcs ps gs (sum_by length own))) (codes "geometries") value.0 (collected members) shape refl refl
            refl found
            (collection-ready arcs ps gs (sum_by length own)) done
            (part-adds (λ t. collected members) (codes ",\"geometries\":") (codes "geometries") members value.0 (own ++ rest) (ps ++ left)
            done.word rest left (ap once found) done.adds);
      }

-- ---- a geometry

abbrev type_head : List ℕ
type_head = codes "{\"type\":"

geometry-adds : (t : Tree) (r : List (List ℤ)) (p : List Place) (w : List ℕ) (s : List (List ℤ)) (q : List Place)
    → Adds (contents t) r p w s q → Adds (written_geometry t) r p (((type_head ++ type_text (shape_of t)) ++ w) ++ codes "}") s q
geometry-adds t r p w s q adds =
    let tw = type_text (shape_of t) in
    let opening : Adds (opened t) r p (type_head ++ tw) r p = then-adds (written type_head) (written tw) r p type_head r p tw r p
    (written-adds type_head r p) (written-adds tw r p) in
    let inner : Adds (λ d. contents t (opened t d)) r p ((type_head ++ tw) ++ w) s q = then-adds (opened t) (contents t) r p
    (type_head ++ tw) r p w s q opening adds in
    then-adds (λ d. contents t (opened t d)) (written (codes "}")) r p ((type_head ++ tw) ++ w) s q (codes "}") s q inner
    (written-adds (codes "}") s q)

geometry-done : (arcs : List (List Place)) (e : Extent) (members : Entries) (r : List (List ℤ)) (p : List Place) (s : List (List ℤ))
    (q ps : List Place) (gs : List (List ℕ)) (n : ℕ) → ContentsDone arcs (ObjectAt e members) r p s q ps gs n
    → Done (written_geometry (ObjectAt e members)) r p (GeometryReads arcs ps gs n) (tree_depth (ObjectAt e members)) s q
geometry-done arcs e members r p s q ps gs n c =
    let k = c.its_kind in
    let depth = entries_depth members in
    let Rest = Behind (name_for k) (Ready arcs (kind_for k) (name_for k) ps gs n) in
    let word = told-so (IsTextTree (word_for k)) (IsTextTree (word_for k)) 0 depth (quoted (word_for k)) (λ t is. is) (omega arith)
    (told-from (IsTextTree (word_for k)) 0 (quoted (word_for k)) (word-spelled (word_for k) (word-letters k))) in
    let entry = entry-told (IsTextTree (word_for k)) Rest depth (quoted (word_for k)) c.word word (c.told depth (omega arith)) in
    record {
      word = ((type_head ++ type_text (shape_of (ObjectAt e members))) ++ c.word) ++ codes "}";
      adds = geometry-adds (ObjectAt e members) r p c.word s q c.adds;
      told = subst (λ (l : List ℕ). Told (GeometryReads arcs ps gs n) (depth + 1) (((type_head ++ l) ++ c.word) ++ codes "}"))
          (sym c.shape_is)
          (told-so (IsObjectTree (StartsWith (codes "type") (IsTextTree (word_for k)) Rest)) (GeometryReads arcs ps gs n) (depth + 1)
          (depth + 1) (123 ∷ ((member_text (codes "type") (quoted (word_for k)) ++ c.word) ++ 125 ∷ []))
          (λ t is. entry-read arcs (kind_for k) (word_for k) (name_for k) ps gs n t (word-kind k) (name-other k) is) (omega arith) entry);
    }

-- ---- lists of geometries

polygons-append : (cs ds : List ℕ) (xs ys : List (List ℤ)) → sum cs ≡ length xs
    → polygons_named (cs ++ ds) (xs ++ ys) ≡ polygons_named cs xs ++ polygons_named ds ys
polygons-append [] ds xs ys long = ap (λ (l : List (List ℤ)). polygons_named ds (l ++ ys)) (no-own xs long)
polygons-append (c ∷ cs) ds xs ys long =
    let all : sum (c ∷ cs) ≡ c + sum cs = sum_by-cons (λ n. n) c cs in
    let few : c ≤ length xs = omega (arith, all, long) in
    let rest : sum cs ≡ length (drop c xs) = omega (arith, all, long, length-drop c xs) in
    let here : take c (xs ++ ys) ≡ take c xs = take-append-le c xs ys few in
    let there : drop c (xs ++ ys) ≡ drop c xs ++ ys = drop-append-le c xs ys few in
    ap (λ (l : List (List ℤ)). numbers_of l ∷ polygons_named (cs ++ ds) (drop c (xs ++ ys))) here
    ∙ ap (λ (l : List (List ℤ)). numbers_of (take c xs) ∷ polygons_named (cs ++ ds) l) there
    ∙ ap (λ (l : List (List ℕ)). numbers_of (take c xs) ∷ l) (polygons-append cs ds (drop c xs) ys rest)

sum-append : (cs ds : List ℕ) → sum (cs ++ ds) ≡ sum cs + sum ds
sum-append cs ds = sum_by-append (λ n. n) cs ds

module _ (arcs : List (List Place)) (one : Tree → Draft → Draft) (trees : Trees) (depth : ℕ) (rest : List (List ℤ)) (left ps : List Place)
  where
    abbrev DoneSo : List (List ℤ) → List Place → List (List ℕ) → ℕ → Type 0
    DoneSo rings points gs n = DoneEach one trees rings points (GeometriesRead arcs ps gs n) depth rest left

    same-done : (r s : List (List ℤ)) (p q : List Place) (gs hs : List (List ℕ)) (m n : ℕ)
        → r ≡ s → p ≡ q → gs ≡ hs → m ≡ n → DoneSo r p gs m
        → DoneSo s q hs n
    same-done r s p q gs hs m n a b c d done =
        subst (λ (x : ℕ). DoneSo s q hs x) d (subst (λ (x : List (List ℕ)). DoneSo s q x m) c
        (subst (λ (x : List Place). DoneSo s x gs m) b (subst (λ (x : List (List ℤ)). DoneSo x p gs m) a done)))

pub none-walked : (arcs : List (List Place)) (one : Tree → Draft → Draft) (before after : Geo) → before ≡ after
    → Walked arcs before after (WritesEach arcs one NoTrees)
none-walked arcs one before after same = record {
  points = [];
  counts = [];
  points_are = ap (λ (g : Geo). g.points) (sym same) ∙ sym (append-nil before.points);
  counts_are = ap (λ (g : Geo). g.polygons) (sym same) ∙ sym (append-nil before.polygons);
  rings_are = omega (arith, ap (λ (g : Geo). length g.rings) (sym same));
  on_grid = λ on. subst AreOnGrid (ap (λ (g : Geo). g.rings) same) on;
  write = λ own rest left none loops. subst (λ (l : List (List ℤ)). WritesEach arcs one NoTrees [] [] l rest left) (sym (no-own own none))
      (none-done one rest left (GeometriesRead arcs [] [] 0) 0 (none-read arcs));
}

pub next-walked : (arcs : List (List Place)) (one : Tree → Draft → Draft) (t : Tree) (others : Trees) (before middle after : Geo)
    → Walked arcs before middle (WritesEntry arcs (one t) (tree_depth t)) → Walked arcs middle after (WritesEach arcs one others)
    → Walked arcs before after (WritesEach arcs one (NextTree t others))
next-walked arcs one t others before middle after a b = record {
  points = a.points ++ b.points;
  counts = a.counts ++ b.counts;
  points_are = b.points_are ∙ ap (λ (l : List Place). l ++ b.points) a.points_are ∙ append_assoc before.points a.points b.points;
  counts_are = b.counts_are ∙ ap (λ (l : List ℕ). l ++ b.counts) a.counts_are ∙ append_assoc before.polygons a.counts b.counts;
  rings_are = omega (arith, a.rings_are, b.rings_are, sum-append a.counts b.counts);
  on_grid = λ on. b.on_grid (a.on_grid on);
  write = λ own rest left long loops.
      let n = sum a.counts in
      let mine = take n own in
      let theirs = drop n own in
      let all = sum-append a.counts b.counts in
      let whole : mine ++ theirs ≡ own = take-append-drop n own in
      let mine_long : sum a.counts ≡ length mine = omega (arith, long, all, length-take n own) in
      let theirs_long : sum b.counts ≡ length theirs = omega (arith, long, all, length-drop n own) in
      let item = a.write mine (theirs ++ rest) (b.points ++ left) mine_long (loops-take arcs n own loops) in
      let more = b.write theirs rest left theirs_long (loops-drop arcs n own loops) in
      let both = next-done one t others (mine ++ (theirs ++ rest)) (a.points ++ (b.points ++ left))
      (GeometryReads arcs a.points (polygons_named a.counts mine) (sum_by length mine))
      (GeometriesRead arcs b.points (polygons_named b.counts theirs) (sum_by length theirs))
      (GeometriesRead arcs (a.points ++ b.points) (polygons_named a.counts mine ++ polygons_named b.counts theirs)
      (sum_by length mine + sum_by length theirs))
      (tree_depth t) (trees_depth others) (theirs ++ rest) (b.points ++ left) rest left
      (λ u us is are. next-read arcs a.points b.points (polygons_named a.counts mine) (polygons_named b.counts theirs) (sum_by length mine)
      (sum_by length theirs) u us is are)
      item more in
      same-done arcs one (NextTree t others) (trees_depth (NextTree t others)) rest left (a.points ++ b.points)
      (mine ++ (theirs ++ rest)) (own ++ rest) (a.points ++ (b.points ++ left)) ((a.points ++ b.points) ++ left)
      (polygons_named a.counts mine ++ polygons_named b.counts theirs) (polygons_named (a.counts ++ b.counts) own)
      (sum_by length mine + sum_by length theirs) (sum_by length own)
      (sym (append_assoc mine theirs rest) ∙ ap (λ (l : List (List ℤ)). l ++ rest) whole)
      (sym (append_assoc a.points b.points left))
      (sym (polygons-append a.counts b.counts mine theirs mine_long) ∙ ap (polygons_named (a.counts ++ b.counts)) whole)
      (sym (sum_by-append length mine theirs) ∙ ap (sum_by length) whole)
      both;
}

-- what a geometry holds, as an entry
pub entry-walked : (arcs : List (List Place)) (e : Extent) (members : Entries) (before after : Geo)
    → Walked arcs before after (WritesContents arcs (ObjectAt e members))
    → Walked arcs before after (WritesEntry arcs (written_geometry (ObjectAt e members)) (tree_depth (ObjectAt e members)))
entry-walked arcs e members before after walked = record {
  points = walked.points;
  counts = walked.counts;
  points_are = walked.points_are;
  counts_are = walked.counts_are;
  rings_are = walked.rings_are;
  on_grid = walked.on_grid;
  write = λ own rest left long loops.
      geometry-done arcs e members (own ++ rest) (walked.points ++ left) rest left walked.points (polygons_named walked.counts own)
      (sum_by length own) (walked.write own rest left long loops);
}

-- a List of entries
pub entries-walked : (arcs : List (List Place)) (one : Tree → Draft → Draft) (e : Extent) (trees : Trees) (before after : Geo)
    → Walked arcs before after (WritesEach arcs one trees)
    → Walked arcs before after (WritesEntries arcs (list_added one (ListAt e trees)) (trees_depth trees + 1))
entries-walked arcs one e trees before after walked = record {
  points = walked.points;
  counts = walked.counts;
  points_are = walked.points_are;
  counts_are = walked.counts_are;
  rings_are = walked.rings_are;
  on_grid = walked.on_grid;
  write = λ own rest left long loops.
      list-done one e trees (own ++ rest) (walked.points ++ left)
      (GeometriesRead arcs walked.points (polygons_named walked.counts own) (sum_by length own)) (trees_depth trees) rest left
      (walked.write own rest left long loops);
}

-- the geometries are written as each one behind the other
geometries-are : (first : Bool) (trees : Trees) (d : Draft) → geometries first trees d ≡ each_added written_geometry first trees d
geometries-are first NoTrees d = refl
geometries-are first (NextTree t others) d = geometries-are false others (written_geometry t (with_comma first d))

-- ---- geometries in geometries

abbrev WritesList : List (List Place) → Tree → List Place → List ℕ → List (List ℤ) → List (List ℤ) → List Place → Type 0
WritesList arcs value points counts own rest left =
    Done (written_list value) (own ++ rest) (points ++ left)
    (IsListTree (GeometriesRead arcs points (polygons_named counts own) (sum_by length own))) (tree_depth value) rest left

list-walked : (arcs : List (List Place)) (e : Extent) (trees : Trees) (before after : Geo)
    → Walked arcs before after (WritesEach arcs written_geometry trees) → Walked arcs before after (WritesList arcs (ListAt e trees))
list-walked arcs e trees before after walked = record {
  points = walked.points;
  counts = walked.counts;
  points_are = walked.points_are;
  counts_are = walked.counts_are;
  rings_are = walked.rings_are;
  on_grid = walked.on_grid;
  write = λ own rest left long loops.
      let list = list-done written_geometry e trees (own ++ rest) (walked.points ++ left)
      (GeometriesRead arcs walked.points (polygons_named walked.counts own) (sum_by length own)) (trees_depth trees) rest left
      (walked.write own rest left long loops) in
      record {
        word = list.word;
        adds = λ text. ap (written (codes "]")) (geometries-are true trees
            (written (codes "[") (draft text (own ++ rest) (walked.points ++ left)))) ∙ list.adds text;
        told = list.told;
      };
}

-- the list of the first member of this name
collection-first : (arcs : List (List Place)) (e : Extent) (word : List ℕ) (t value : Tree) (others : Entries) (before after : Geo)
    → t ≡ value → bytes_eq word (codes "geometries") ≡ true → Walked arcs before after (WritesList arcs t)
    → Walked arcs before after (WritesCollection arcs (NextEntry e word t others) value)
collection-first arcs e word t value others before after is same walked = record {
  points = walked.points;
  counts = walked.counts;
  points_are = walked.points_are;
  counts_are = walked.counts_are;
  rings_are = walked.rings_are;
  on_grid = walked.on_grid;
  write = λ own rest left long loops.
      let list = walked.write own rest left long loops in
      let Q = IsListTree (GeometriesRead arcs walked.points (polygons_named walked.counts own) (sum_by length own)) in
      record {
        word = list.word;
        adds = λ text. cond-true (bytes_eq word (codes "geometries")) _ _ same ∙ list.adds text;
        told = subst (λ (u : Tree). Told Q (tree_depth u) list.word) is list.told;
      };
}

collection-later : (arcs : List (List Place)) (e : Extent) (word : List ℕ) (t value : Tree) (others : Entries) (before after : Geo)
    → bytes_eq word (codes "geometries") ≡ false → Walked arcs before after (WritesCollection arcs others value)
    → Walked arcs before after (WritesCollection arcs (NextEntry e word t others) value)
collection-later arcs e word t value others before after other walked = record {
  points = walked.points;
  counts = walked.counts;
  points_are = walked.points_are;
  counts_are = walked.counts_are;
  rings_are = walked.rings_are;
  on_grid = walked.on_grid;
  write = λ own rest left long loops.
      let list = walked.write own rest left long loops in
      record {
        word = list.word;
        adds = λ text. cond-false (bytes_eq word (codes "geometries")) _ _ other
            ∙ list.adds text;
        told = list.told;
      };
}

module _ (arcs : List (List Place)) (few : length arcs ≤ 2 ^ 20) where
  kind-walked : (e : Extent) (members : Entries) (k : Geometry) (before after : Geo) → shape_of (ObjectAt e members) ≡ shape_for k
      → ((value : Tree) → lookup (codes "geometries") members ≡ OnceIn value → collection_of members before ≡ Ok after
      → Walked arcs before after (WritesCollection arcs members value))
      → of_kind k (ObjectAt e members) members (collection_of members) before ≡ Ok after
      → Walked arcs before after (WritesContents arcs (ObjectAt e members))
  kind-walked e members geometry.Point before after shape inner h = point-walked arcs few e members before after shape h
  kind-walked e members geometry.MultiPoint before after shape inner h = points-walked arcs few e members before after shape h
  kind-walked e members geometry.Polygon before after shape inner h = polygon-walked arcs few e members before after shape h
  kind-walked e members geometry.MultiPolygon before after shape inner h = polygons-walked arcs few e members before after shape h
  kind-walked e members geometry.GeometryCollection before after shape inner h = collection-walked arcs few e members before after shape
      inner h

  object-walked : (e : Extent) (members : Entries) (before after : Geo)
      → ((value : Tree) → lookup (codes "geometries") members ≡ OnceIn value → collection_of members before ≡ Ok after
      → Walked arcs before after (WritesCollection arcs members value))
      → geometry_in (ObjectAt e members) members (collection_of members) before ≡ Ok after
      → Walked arcs before after (WritesContents arcs (ObjectAt e members))
  object-walked e members before after inner h =
      let k = then-ok (geometry_kind (ObjectAt e members) members)
      (λ kind. of_kind kind (ObjectAt e members) members (collection_of members) before) after h in
      kind-walked e members k.0 before after (kind-shape e members k.0 k.1) inner k.2

  mutual
    members-walked : (members : Entries) (value : Tree) (before after : Geo) → lookup (codes "geometries") members ≡ OnceIn value
        → collection_of members before ≡ Ok after → Walked arcs before after (WritesCollection arcs members value)
    members-walked NoEntries value before after found h = absurd cc
    members-walked (NextEntry e word t others) value before after found h =
        at_case (tree-walked t before after) (members-walked others value before after) (bytes_eq word (codes "geometries")) refl
      where
        at_case : (geometry_list t before ≡ Ok after → Walked arcs before after (WritesList arcs t))
            → (lookup (codes "geometries") others ≡ OnceIn value → collection_of others before ≡ Ok after
            → Walked arcs before after (WritesCollection arcs others value)) → (b : Bool) → bytes_eq word (codes "geometries") ≡ b
            → Walked arcs before after (WritesCollection arcs (NextEntry e word t others) value)
        at_case here further true same =
            collection-first arcs e word t value others before after (once-first (codes "geometries") e word t value others found same) same
            (here (sym (cond-true (bytes_eq word (codes "geometries")) _ _ same) ∙ h))
        at_case here further false other =
            collection-later arcs e word t value others before after other
            (further (once-later (codes "geometries") e word t value others found other)
            (sym (cond-false (bytes_eq word (codes "geometries")) _ _ other) ∙ h))

    tree-walked : (t : Tree) (before after : Geo) → geometry_list t before ≡ Ok after → Walked arcs before after (WritesList arcs t)
    tree-walked (NullAt e) before after h = not-ok _ after h
    tree-walked (FalseAt e) before after h = not-ok _ after h
    tree-walked (TrueAt e) before after h = not-ok _ after h
    tree-walked (NumberAt e whole) before after h = not-ok _ after h
    tree-walked (TextAt e word) before after h = not-ok _ after h
    tree-walked (ListAt e trees) before after h = list-walked arcs e trees before after (trees-walked trees before after h)
    tree-walked (ObjectAt e members) before after h = not-ok _ after h

    trees-walked : (trees : Trees) (before after : Geo) → geometries_of trees before ≡ Ok after
        → Walked arcs before after (WritesEach arcs written_geometry trees)
    trees-walked NoTrees before after h = none-walked arcs written_geometry before after (same-ok before after h)
    trees-walked (NextTree (NullAt e) others) before after h = not-ok _ after h
    trees-walked (NextTree (FalseAt e) others) before after h = not-ok _ after h
    trees-walked (NextTree (TrueAt e) others) before after h = not-ok _ after h
    trees-walked (NextTree (NumberAt e whole) others) before after h = not-ok _ after h
    trees-walked (NextTree (TextAt e word) others) before after h = not-ok _ after h
    trees-walked (NextTree (ListAt e trees) others) before after h = not-ok _ after h
    trees-walked (NextTree (ObjectAt e members) others) before after h =
        let step = then-ok (geometry_of (ObjectAt e members) before) (geometries_of others) after h in
        next-walked arcs written_geometry (ObjectAt e members) others before step.0 after
        (entry-walked arcs e members before step.0
        (object-walked e members before step.0 (λ value found inner. members-walked members value before step.0 found inner) step.1))
        (trees-walked others step.0 after step.2)

  pub geometry-walked : (e : Extent) (members : Entries) (before after : Geo) → geometry_of (ObjectAt e members) before ≡ Ok after
      → Walked arcs before after (WritesContents arcs (ObjectAt e members))
  geometry-walked e members before after h = object-walked e members before after
      (λ value found inner. members-walked members value before after found inner) h
