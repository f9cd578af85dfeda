-- What the walk over a topology reads of the geometries that were written.
use Rattle.std.specs.Prelude.{codes}
use Rattle.std.proofs.Common.{◌≡◌, ℕ, suc, ◌+◌, ◌^◌, ◌<◌, ◌≤◌, Bool, true, false, bytes_eq, Option, Some, List, [], ◌∷◌, ◌++◌, length}
use Rattle.std.proofs.Common.{sum_by, ℤ, Result, Ok, refl, sym, ap, subst, ◌∙◌, arith, append_assoc, append-nil}
use Rattle.std.proofs.lemmas.Bool.{cond-true, cond-false}
use Rattle.std.proofs.lemmas.List.{length-append}
use Rattle.grid_exact.specs.Geometry.{Place}
use Rattle.json_scan.specs.Tree.{Extent, Tree, NullAt, TextAt, ListAt, ObjectAt, Trees, NoTrees, NextTree, Entries, NoEntries, NextEntry}
use Rattle.json_scan.specs.Tree.{Lookup, OnceIn, named, at_first, at_second, lookup}
use Rattle.topo_reader.specs.declared.fault.ReadFault.{ReadFault}
use Rattle.topo_reader.specs.declared.fault.What.TheVariants as what
use Rattle.topo_reader.specs.declared.geometry.Geometry.{Geometry}
use Rattle.topo_reader.specs.declared.geometry.Geometry.TheVariants as geometry
use Rattle.topo_reader.specs.Sequence.{and_then, at_found, list_of}
use Rattle.topo_reader.specs.Geometries.{Seen, PolygonRead, with_points, with_polygon, point_added, points_added, rings_of, polygons_of}
use Rattle.topo_reader.specs.Geometries.{polygon_of, text_geometry, named_geometry, geometry_name, of_kind, geometry_of, collection_of}
use Rattle.topo_reader.specs.Geometries.{geometries_of}
use Rattle.topo_reader.proofs.Counting.{counted-more}
use Rattle.topo_reader.proofs.Collections.{collection-is}
use Rattle.topo_writer.proofs.TreeShapes.{IsListTree}
use Rattle.geo_text.proofs.Words.{IsTextTree, IsObjectTree, StartsWith, IsEnd}
use Rattle.geo_text.proofs.Loops.{Reads, numbers_of, read_so_far}
use Rattle.geo_text.proofs.PointsWritten.{PointRead, PointsRead, point-added}

-- ---- what is seen

abbrev pub seen_more : Seen → List Place → List (List ℕ) → ℕ → Seen
seen_more seen points polygons references = record
    { points = seen.points ++ points; polygons = seen.polygons ++ polygons; references = seen.references + references }

pub same-seen : (a b : List Place) (c d : List (List ℕ)) (m n : ℕ) → a ≡ b → c ≡ d → m ≡ n
    → ◌≡◌ {A = Result Seen ReadFault} (Ok (record { points = a; polygons = c; references = m }))
    (Ok (record { points = b; polygons = d; references = n }))
same-seen a b c d m n p q r = rw (p, q, r) refl

-- so many more are within the limits
pub record HasRoom (seen : Seen) (more_points more_polygons more_references : ℕ) : Type 0 where
  pub points : length seen.points + more_points ≤ 2 ^ 20
  pub polygons : length seen.polygons + more_polygons ≤ 2 ^ 20
  pub references : seen.references + more_references ≤ 2 ^ 22

-- a walk adds these
abbrev pub AddsToSeen : (Seen → Result Seen ReadFault) → List Place → List (List ℕ) → ℕ → Type 0
AddsToSeen walk points polygons references = (seen : Seen) → HasRoom seen (length points) (length polygons) references
    → walk seen ≡ Ok (seen_more seen points polygons references)

abbrev pub GeometryReads : List (List Place) → List Place → List (List ℕ) → ℕ → Tree → Type 0
GeometryReads arcs points polygons references t = AddsToSeen (geometry_of arcs t) points polygons references

abbrev pub GeometriesRead : List (List Place) → List Place → List (List ℕ) → ℕ → Trees → Type 0
GeometriesRead arcs points polygons references trees = AddsToSeen (geometries_of arcs trees) points polygons references

pub none-read : (arcs : List (List Place)) → GeometriesRead arcs [] [] 0 NoTrees
none-read arcs seen room = same-seen seen.points (seen.points ++ []) seen.polygons (seen.polygons ++ []) seen.references
    (seen.references + 0) (sym (append-nil seen.points)) (sym (append-nil seen.polygons)) (omega arith)

pub next-read : (arcs : List (List Place)) (ps qs : List Place) (gs hs : List (List ℕ)) (m n : ℕ) (t : Tree) (others : Trees)
    → GeometryReads arcs ps gs m t → GeometriesRead arcs qs hs n others
    → GeometriesRead arcs (ps ++ qs) (gs ++ hs) (m + n) (NextTree t others)
next-read arcs ps qs gs hs m n t others is are seen room =
    let points : length seen.points + (length ps + length qs) ≤ 2 ^ 20 = omega (arith, room.points, length-append ps qs) in
    let polygons : length seen.polygons + (length gs + length hs) ≤ 2 ^ 20 = omega (arith, room.polygons, length-append gs hs) in
    let references : seen.references + (m + n) ≤ 2 ^ 22 = room.references in
    let here : HasRoom seen (length ps) (length gs) m = record
    { points = omega (arith, points); polygons = omega (arith, polygons); references = omega (arith, references) } in
    let there : HasRoom (seen_more seen ps gs m) (length qs) (length hs) n =
    record {
      points = omega (arith, points, length-append seen.points ps);
      polygons = omega (arith, polygons, length-append seen.polygons gs);
      references = omega (arith, references);
    } in
    ap (λ (r : Result Seen ReadFault). and_then r (geometries_of arcs others)) (is seen here)
    ∙ are (seen_more seen ps gs m) there
    ∙ same-seen ((seen.points ++ ps) ++ qs) (seen.points ++ (ps ++ qs)) ((seen.polygons ++ gs) ++ hs) (seen.polygons ++ (gs ++ hs))
    ((seen.references + m) + n) (seen.references + (m + n))
    (append_assoc seen.points ps qs) (append_assoc seen.polygons gs hs) (omega arith)

-- ---- the members of an entry

-- behind the type: no other type, and a value with this name
pub record Behind (name : List ℕ) (P : Tree → Type 0) (members : Entries) : Type 0 where
  pub no_type : named (codes "type") members ≡ NoEntries
  pub value : Tree
  pub found : lookup name members ≡ OnceIn value
  pub is : P value

-- behind the type: no other type
abbrev pub NoType : Entries → Type 0
NoType members = named (codes "type") members ≡ NoEntries

named-past : (name : List ℕ) (e : Extent) (word : List ℕ) (t : Tree) (others : Entries) → bytes_eq word name ≡ false
    → named name (NextEntry e word t others) ≡ named name others
named-past name e word t others other = cond-false (bytes_eq word name) _ _ other

lookup-past : (name : List ℕ) (e : Extent) (word : List ℕ) (t : Tree) (others : Entries) → bytes_eq word name ≡ false
    → lookup name (NextEntry e word t others) ≡ lookup name others
lookup-past name e word t others other = ap (at_first name) (named-past name e word t others other)

lookup-here : (name : List ℕ) (e : Extent) (word : List ℕ) (t : Tree) (others : Entries) → bytes_eq word name ≡ true
    → named name others ≡ NoEntries → lookup name (NextEntry e word t others) ≡ OnceIn t
lookup-here name e word t others same none = ap (at_first name) (cond-true (bytes_eq word name) _ _ same) ∙ ap (at_second t) none

end-named : (name : List ℕ) (others : Entries) → IsEnd others → named name others ≡ NoEntries
end-named name NoEntries is = refl
end-named name (NextEntry e word t others) is = absurd is

pub behind-value : (name : List ℕ) (P : Tree → Type 0) (members : Entries) → bytes_eq name (codes "type") ≡ false
    → bytes_eq name name ≡ true → StartsWith name P IsEnd members → Behind name P members
behind-value name P NoEntries other same is = absurd is
behind-value name P (NextEntry e word t others) other same is =
    let not_type : bytes_eq word (codes "type") ≡ false = ap (λ (w : List ℕ). bytes_eq w (codes "type")) is.0 ∙ other in
    let its_name : bytes_eq word name ≡ true = ap (λ (w : List ℕ). bytes_eq w name) is.0 ∙ same in
    record {
      no_type = named-past (codes "type") e word t others not_type ∙ end-named (codes "type") others is.2;
      value = t;
      found = lookup-here name e word t others its_name (end-named name others is.2);
      is = is.1;
    }

pub behind-passed : (other name : List ℕ) (R P : Tree → Type 0) (members : Entries) → bytes_eq other (codes "type") ≡ false
    → bytes_eq other name ≡ false → StartsWith other R (Behind name P) members → Behind name P members
behind-passed other name R P NoEntries not_type not_name is = absurd is
behind-passed other name R P (NextEntry e word t others) not_type not_name is =
    let further = is.2 in
    record {
      no_type = named-past (codes "type") e word t others (ap (λ (w : List ℕ). bytes_eq w (codes "type")) is.0 ∙ not_type)
          ∙ further.no_type;
      value = further.value;
      found = lookup-past name e word t others (ap (λ (w : List ℕ). bytes_eq w name) is.0 ∙ not_name) ∙ further.found;
      is = further.is;
    }

pub no_type-passed : (other : List ℕ) (R : Tree → Type 0) (members : Entries) → bytes_eq other (codes "type") ≡ false
    → StartsWith other R NoType members → NoType members
no_type-passed other R NoEntries not_type is = absurd is
no_type-passed other R (NextEntry e word t others) not_type is = named-past (codes "type") e word t others
    (ap (λ (w : List ℕ). bytes_eq w (codes "type")) is.0 ∙ not_type) ∙ is.2

-- ---- an entry

-- where the value with this name stands once, a geometry of the kind adds these
abbrev pub Ready : List (List Place) → Geometry → List ℕ → List Place → List (List ℕ) → ℕ → Tree → Type 0
Ready arcs kind name points polygons references value =
    (holder : Tree) (members : Entries) → lookup name members ≡ OnceIn value
    → AddsToSeen (of_kind arcs kind holder members (collection_of arcs members)) points polygons references

kind-found : (arcs : List (List Place)) (e at : Extent) (members : Entries) (word : List ℕ) (kind : Geometry) (seen : Seen)
    → lookup (codes "type") members ≡ OnceIn (TextAt at word) → text_geometry word ≡ Some kind
    → geometry_of arcs (ObjectAt e members) seen ≡ of_kind arcs kind (ObjectAt e members) members (collection_of arcs members) seen
kind-found arcs e at members word kind seen found is =
    ap (λ (l : Lookup). and_then (and_then (at_found (ObjectAt e members) l) geometry_name)
    (λ name. of_kind arcs name (ObjectAt e members) members (collection_of arcs members) seen)) found
    ∙ ap (λ (o : Option Geometry). and_then (named_geometry (TextAt at word) o)
    (λ name. of_kind arcs name (ObjectAt e members) members (collection_of arcs members) seen)) is

text-first : (word name : List ℕ) (P : Tree → Type 0) (e f : Extent) (t : Tree) (arcs : List (List Place)) (kind : Geometry)
    (ps : List Place) (gs : List (List ℕ)) (n : ℕ) (first others : Entries) (label : List ℕ)
    → first ≡ NextEntry f label t others → label ≡ codes "type" → IsTextTree word t → Behind name (Ready arcs kind name ps gs n) others
    → text_geometry word ≡ Some kind → bytes_eq (codes "type") name ≡ false
    → GeometryReads arcs ps gs n (ObjectAt e first)
text-first word name P e f (TextAt at symbols) arcs kind ps gs n first others label whole is means behind named other seen room =
    let type : lookup (codes "type") (NextEntry f label (TextAt at symbols) others) ≡ OnceIn (TextAt at symbols) =
    lookup-here (codes "type") f label (TextAt at symbols) others (ap (λ (w : List ℕ). bytes_eq w (codes "type")) is) behind.no_type in
    let value : lookup name (NextEntry f label (TextAt at symbols) others) ≡ OnceIn behind.value =
    lookup-past name f label (TextAt at symbols) others (ap (λ (w : List ℕ). bytes_eq w name) is ∙ other) ∙ behind.found in
    let kind_is : text_geometry symbols ≡ Some kind = ap text_geometry means ∙ named in
    ap (λ (ms : Entries). geometry_of arcs (ObjectAt e ms) seen) whole
    ∙ kind-found arcs e at (NextEntry f label (TextAt at symbols) others) symbols kind seen type kind_is
    ∙ behind.is (ObjectAt e (NextEntry f label (TextAt at symbols) others)) (NextEntry f label (TextAt at symbols) others) value seen room
text-first word name P e f t arcs kind ps gs n first others label whole is means behind named other seen room = absurd means

pub entry-read : (arcs : List (List Place)) (kind : Geometry) (word name : List ℕ) (ps : List Place) (gs : List (List ℕ)) (n : ℕ) (t : Tree)
    → text_geometry word ≡ Some kind → bytes_eq (codes "type") name ≡ false
    → IsObjectTree (StartsWith (codes "type") (IsTextTree word) (Behind name (Ready arcs kind name ps gs n))) t
    → GeometryReads arcs ps gs n t
entry-read arcs kind word name ps gs n (ObjectAt e NoEntries) named other is = absurd is
entry-read arcs kind word name ps gs n (ObjectAt e (NextEntry f label t others)) named other is =
    text-first word name (IsTextTree word) e f t arcs kind ps gs n (NextEntry f label t others) others label refl is.0 is.1 is.2 named other
entry-read arcs kind word name ps gs n t named other is = absurd is

abbrev pub IsNull : Tree → Type 0
IsNull (NullAt e) = Unit {0}
IsNull _ = ⊥

null-first : (arcs : List (List Place)) (e f : Extent) (t : Tree) (others : Entries) (label : List ℕ) → label ≡ codes "type" → IsNull t
    → NoType others → GeometryReads arcs [] [] 0 (ObjectAt e (NextEntry f label t others))
null-first arcs e f (NullAt at) others label is null none seen room =
    let members = NextEntry f label (NullAt at) others in
    let type : lookup (codes "type") members ≡ OnceIn (NullAt at) = lookup-here (codes "type") f label (NullAt at) others
    (ap (λ (w : List ℕ). bytes_eq w (codes "type")) is) none in
    ap (λ (l : Lookup). and_then (and_then (at_found (ObjectAt e members) l) geometry_name)
    (λ name. of_kind arcs name (ObjectAt e members) members (collection_of arcs members) seen)) type
    ∙ same-seen seen.points (seen.points ++ []) seen.polygons (seen.polygons ++ []) seen.references (seen.references + 0)
    (sym (append-nil seen.points)) (sym (append-nil seen.polygons)) (omega arith)
null-first arcs e f t others label is null none seen room = absurd null

pub null-read : (arcs : List (List Place)) (t : Tree) → IsObjectTree (StartsWith (codes "type") IsNull NoType) t
    → GeometryReads arcs [] [] 0 t
null-read arcs (ObjectAt e NoEntries) is = absurd is
null-read arcs (ObjectAt e (NextEntry f label t others)) is = null-first arcs e f t others label is.0 is.1 is.2
null-read arcs t is = absurd is

-- ---- the kinds

pub point-ready : (arcs : List (List Place)) (p : Place) (value : Tree) → PointRead p value
    → Ready arcs geometry.Point (codes "coordinates") (p ∷ []) [] 0 value
point-ready arcs p value is holder members found seen room =
    let few : length seen.points < 2 ^ 20 = omega (arith, room.points) in
    ap (λ (l : Lookup). and_then (at_found holder l) (λ v. with_points seen (point_added v seen.points))) found
    ∙ ap (with_points seen) (point-added p value seen.points is few)
    ∙ same-seen (seen.points ++ p ∷ []) (seen.points ++ p ∷ []) seen.polygons (seen.polygons ++ []) seen.references (seen.references + 0)
    refl (sym (append-nil seen.polygons)) (omega arith)

pub points-ready : (arcs : List (List Place)) (ps : List Place) (value : Tree) → IsListTree (PointsRead ps) value
    → Ready arcs geometry.MultiPoint (codes "coordinates") ps [] 0 value
points-ready arcs ps (ListAt e trees) is holder members found seen room =
    ap (λ (l : Lookup). and_then (at_found holder l) (λ v. and_then (list_of v) (λ ts. with_points seen (points_added ts seen.points))))
    found
    ∙ ap (with_points seen) (is seen.points room.points)
    ∙ same-seen (seen.points ++ ps) (seen.points ++ ps) seen.polygons (seen.polygons ++ []) seen.references (seen.references + 0) refl
    (sym (append-nil seen.polygons)) (omega arith)
points-ready arcs ps t is holder members found seen room = absurd is

rings-ready : (walk : Tree → PolygonRead → Result PolygonRead ReadFault) (own : List (List ℤ)) (value : Tree) → Reads walk own value
    → (holder : Tree) (members : Entries) → lookup (codes "arcs") members ≡ OnceIn value
    → AddsToSeen (polygon_of walk holder members) [] (numbers_of own ∷ []) (sum_by length own)
rings-ready walk own value is holder members found seen room =
    let few : length seen.polygons < 2 ^ 20 = omega (arith, room.polygons) in
    counted-more what.Polygons (2 ^ 20) (length seen.polygons) holder _ few
    ∙ ap (λ (l : Lookup). and_then (at_found holder l)
    (λ v. and_then (walk v (read_so_far [] seen.references)) (λ polygon. Ok (with_polygon seen polygon)))) found
    ∙ ap (λ (r : Result PolygonRead ReadFault). and_then r (λ polygon. Ok (with_polygon seen polygon)))
    (is [] seen.references room.references)
    ∙ same-seen seen.points (seen.points ++ []) (seen.polygons ++ numbers_of own ∷ []) (seen.polygons ++ numbers_of own ∷ [])
    (seen.references + sum_by length own) (seen.references + sum_by length own) (sym (append-nil seen.points)) refl refl

pub polygon-ready : (arcs : List (List Place)) (own : List (List ℤ)) (value : Tree) → Reads (rings_of arcs) own value
    → Ready arcs geometry.Polygon (codes "arcs") [] (numbers_of own ∷ []) (sum_by length own) value
polygon-ready arcs own value is = rings-ready (rings_of arcs) own value is

pub polygons-ready : (arcs : List (List Place)) (own : List (List ℤ)) (value : Tree) → Reads (polygons_of arcs) own value
    → Ready arcs geometry.MultiPolygon (codes "arcs") [] (numbers_of own ∷ []) (sum_by length own) value
polygons-ready arcs own value is = rings-ready (polygons_of arcs) own value is

pub collection-ready : (arcs : List (List Place)) (ps : List Place) (gs : List (List ℕ)) (n : ℕ) (value : Tree)
    → IsListTree (GeometriesRead arcs ps gs n) value → Ready arcs geometry.GeometryCollection (codes "geometries") ps gs n value
collection-ready arcs ps gs n (ListAt e trees) is holder members found seen room =
    collection-is arcs holder members (ListAt e trees) seen (sym (ap (at_found holder) found)) ∙ is seen room
collection-ready arcs ps gs n t is holder members found seen room = absurd is
