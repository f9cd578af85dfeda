-- The texts of features are read as their geometries.
use Rattle.std.specs.Prelude.{codes}
use Rattle.std.proofs.Common.{◌≡◌, ℕ, suc, ◌+◌, ◌^◌, ◌≤◌, max, Bool, true, false, bytes_eq, Option, Some, None, List, [], ◌∷◌, ◌++◌, length}
use Rattle.std.proofs.Common.{sum_by, ℤ, Result, Ok, refl, sym, ap, subst, ◌∙◌, arith, append_assoc, append-nil}
use Rattle.std.specs.List.{AllByRecursion}
use Rattle.std.proofs.lemmas.Bool.{cond-true, cond-false}
use Rattle.std.proofs.lemmas.Str.{IsUtf8-from_ascii}
use Rattle.std.proofs.lemmas.Str.Ascii.{IsAscii-nil, IsAscii-cons}
use Rattle.grid_exact.specs.Geometry.{Place}
use Rattle.json_scan.specs.Grammar.{Null}
use Rattle.json_scan.specs.Parts.{is_text, members_in}
use Rattle.json_scan.specs.Tree.{Extent, Tree, NullAt, FalseAt, TrueAt, NumberAt, TextAt, ListAt, ObjectAt, Trees, NoTrees, NextTree}
use Rattle.json_scan.specs.Tree.{Entries, Lookup, NowhereIn, OnceIn, TwiceIn, lookup}
use Rattle.topo_reader.specs.declared.fault.ReadFault.{ReadFault}
use Rattle.topo_reader.specs.Sequence.{and_then, each}
use Rattle.topo_reader.specs.Geometries.{Seen, geometries_of}
use Rattle.topo_reader.proofs.ArcLaws.{not-ok, same-ok, then-ok}
use Rattle.topo_reader.proofs.Lookups.{once-among}
use Rattle.topo_writer.proofs.TreeShapes.{IsListTree}
use Rattle.topo_build.specs.References.{polygons_of as polygons_named}
use Rattle.geo_reader.specs.declared.fault.GeoFault.{GeoFault}
use Rattle.geo_reader.specs.declared.geometry.Geometry.{Geometry}
use Rattle.geo_reader.specs.declared.geometry.Geometry.TheVariants as geometry
use Rattle.geo_reader.specs.Geo.{Geo, no_geo}
use Rattle.geo_reader.specs.Steps.{list_of, required}
use Rattle.geo_reader.specs.Geometries.{geometry_in, geometry_of, collection_of}
use Rattle.geo_reader.specs.GeoJson.{feature_type, geometry_or_null, id_of, properties_of, feature_in as read_feature}
use Rattle.geo_reader.specs.GeoJson.{feature_of as read_feature_of, features_in as read_features, by_type as read_by_type, geojson_in}
use Rattle.geo_reader.specs.GeoJson.{geojson_of}
use Rattle.geo_reader.proofs.Holding.{required-once}
use Rattle.geo_text.specs.Shapes.{bytes_in, once, value_in, shape_of, type_text}
use Rattle.geo_text.specs.Drafts.{Draft, written, where_some, list_added}
use Rattle.geo_text.specs.BuiltText.{member, contents, opened, geometry as written_geometry, as_it_stands, if_object, attributes}
use Rattle.geo_text.specs.BuiltText.{feature_of, feature_in, feature, alone, by_type, entries}
use Rattle.geo_text.proofs.Readable.{IsLoop}
use Rattle.geo_text.proofs.Words.{IsTextTree, IsObjectTree, StartsWith, quoted, word-spelled}
use Rattle.geo_text.proofs.Told.{Told, told-from, told-so, texts-next, list-told, ToldRest, rest-none, rest-member, entry-told, member_text}
use Rattle.geo_text.proofs.Depths.{tree_depth, trees_depth, entries_depth, among-depth}
use Rattle.geo_text.proofs.Copies.{IsCopied, AllCopied, EachCopied, MembersCopied, among-copied, self-of}
use Rattle.geo_text.proofs.Adding.{draft, Adds, nothing-adds, written-adds, then-adds, same-draft, Done}
use Rattle.geo_text.proofs.RingsOnGrid.{AreOnGrid}
use Rattle.geo_text.proofs.EntriesRead.{GeometryReads, GeometriesRead, Behind, behind-passed, NoType, no_type-passed, Ready, entry-read}
use Rattle.geo_text.proofs.EntriesRead.{IsNull, null-read}
use Rattle.geo_text.proofs.GeometriesWritten.{Walked, ContentsDone, WritesContents, WritesEntry, WritesEntries, WritesEach, word_for}
use Rattle.geo_text.proofs.GeometriesWritten.{kind_for, name_for, word-kind, word-letters, name-other, part-adds, no-own, found-value}
use Rattle.geo_text.proofs.GeometriesWritten.{none-walked, next-walked, entry-walked, entries-walked, geometry-walked}

-- ---- attributes

abbrev Any : Tree → Type 0
Any u = Unit {0}

-- members of which this still holds behind an `id`, and behind `properties`
record Passes (Q : Entries → Type 0) : Type 0 where
  id : (members : Entries) → StartsWith (codes "id") Any Q members → Q members
  properties : (members : Entries) → StartsWith (codes "properties") Any Q members → Q members

-- a part adds members that are passed
record Passed (part : Draft → Draft) (limit : ℕ) (Q : Entries → Type 0) : Type 0 where
  word : List ℕ
  adds : (r : List (List ℤ)) (p : List Place) → Adds part r p word r p
  told : (depth : ℕ) (more : List ℕ) → limit ≤ depth → ToldRest Q depth more → ToldRest Q depth (word ++ more)

nothing-passed : (part : Draft → Draft) (limit : ℕ) (Q : Entries → Type 0) → ((d : Draft) → part d ≡ d) → Passed part limit Q
nothing-passed part limit Q same = record {
  word = [];
  adds = λ r p text. same (draft text r p) ∙ nothing-adds r p text;
  told = λ depth more within rest. rest;
}

both-passed : (f g : Draft → Draft) (limit : ℕ) (Q : Entries → Type 0) → Passed f limit Q → Passed g limit Q → Passed (λ d. g (f d)) limit Q
both-passed f g limit Q a b = record {
  word = a.word ++ b.word;
  adds = λ r p. then-adds f g r p a.word r p b.word r p (a.adds r p) (b.adds r p);
  told = λ depth more within rest. subst (ToldRest Q depth) (sym (append_assoc a.word b.word more))
      (a.told depth (b.word ++ more) within (b.told depth more within rest));
}

once-some : (l : Lookup) (t : Tree) → once l ≡ Some t → l ≡ OnceIn t
once-some NowhereIn t h = absurd cc
once-some (OnceIn u) t h = let same : u ≡ t = cc in ap (λ (v : Tree). OnceIn v) same
once-some (TwiceIn e) t h = absurd cc

-- a value that is found is copied, and no deeper than its Object
record FoundCopied (input : List ℕ) (members : Entries) (t : Tree) : Type 0 where
  copied : IsCopied input t
  within : tree_depth t ≤ entries_depth members

found-copied : (input name : List ℕ) (members : Entries) (t : Tree) → MembersCopied input members → value_in name members ≡ Some t
    → FoundCopied input members t
found-copied input name members t all found =
    let among = once-among name members t (once-some (lookup name members) t found) in
    record { copied = self-of input t (among-copied input t members all among); within = among-depth t members among }

id-passed : (input : List ℕ) (members : Entries) (Q : Entries → Type 0) → Passes Q → MembersCopied input members
    → Passed (where_some (value_in (codes "id") members) (member (codes ",\"id\":") (as_it_stands input))) (entries_depth members) Q
id-passed input members Q passes all = at_case (value_in (codes "id") members) refl
  where
    at_case : (o : Option Tree) → value_in (codes "id") members ≡ o
        → Passed (where_some (value_in (codes "id") members) (member (codes ",\"id\":") (as_it_stands input))) (entries_depth members) Q
    at_case None is = nothing-passed _ (entries_depth members) Q
        (λ d. ap (λ (o : Option Tree). where_some o (member (codes ",\"id\":") (as_it_stands input)) d) is)
    at_case (Some t) is =
        let found = found-copied input (codes "id") members t all is in
        let bytes = bytes_in input t in
        record {
          word = codes ",\"id\":" ++ bytes;
          adds = λ r p. part-adds (as_it_stands input) (codes ",\"id\":") (codes "id") members t r p bytes r p is (written-adds bytes r p);
          told = λ depth more within rest. rest-member Any Q Q depth (codes "id") bytes more refl passes.id
              (told-so Any Any (tree_depth t) depth bytes (λ u any. any) (omega (arith, found.within, within)) found.copied) rest;
        }

abbrev properties_part : List ℕ → Tree → Draft → Draft
properties_part input = if_object (member (codes ",\"properties\":") (as_it_stands input))

tree-passed : (input : List ℕ) (t : Tree) (limit : ℕ) (Q : Entries → Type 0) → Passes Q → IsCopied input t → tree_depth t ≤ limit
    → Passed (properties_part input t) limit Q
tree-passed input (NullAt e) limit Q passes copied deep = nothing-passed (properties_part input (NullAt e)) limit Q (λ d. refl)
tree-passed input (FalseAt e) limit Q passes copied deep = nothing-passed (properties_part input (FalseAt e)) limit Q (λ d. refl)
tree-passed input (TrueAt e) limit Q passes copied deep = nothing-passed (properties_part input (TrueAt e)) limit Q (λ d. refl)
tree-passed input (NumberAt e whole) limit Q passes copied deep = nothing-passed (properties_part input (NumberAt e whole)) limit Q
    (λ d. refl)
tree-passed input (TextAt e word) limit Q passes copied deep = nothing-passed (properties_part input (TextAt e word)) limit Q (λ d. refl)
tree-passed input (ListAt e trees) limit Q passes copied deep = nothing-passed (properties_part input (ListAt e trees)) limit Q (λ d. refl)
tree-passed input (ObjectAt e members) limit Q passes copied deep =
    let t = ObjectAt e members in
    let bytes = bytes_in input t in
    record {
      word = codes ",\"properties\":" ++ bytes;
      adds = λ r p. then-adds (written (codes ",\"properties\":")) (written bytes) r p (codes ",\"properties\":") r p bytes r p
          (written-adds (codes ",\"properties\":") r p) (written-adds bytes r p);
      told = λ depth more within rest. rest-member Any Q Q depth (codes "properties") bytes more refl passes.properties
          (told-so Any Any (tree_depth t) depth bytes (λ u any. any) (omega (arith, deep, within)) copied) rest;
    }

properties-passed : (input : List ℕ) (members : Entries) (Q : Entries → Type 0) → Passes Q → MembersCopied input members
    → Passed (where_some (value_in (codes "properties") members) (properties_part input)) (entries_depth members) Q
properties-passed input members Q passes all = at_case (value_in (codes "properties") members) refl
  where
    at_case : (o : Option Tree) → value_in (codes "properties") members ≡ o
        → Passed (where_some (value_in (codes "properties") members) (properties_part input)) (entries_depth members) Q
    at_case None is = nothing-passed _ (entries_depth members) Q (λ d. ap (λ (o : Option Tree). where_some o (properties_part input) d) is)
    at_case (Some t) is =
        let found = found-copied input (codes "properties") members t all is in
        let inner = tree-passed input t (entries_depth members) Q passes found.copied found.within in
        record {
          word = inner.word;
          adds = λ r p text. ap (λ (o : Option Tree). where_some o (properties_part input) (draft text r p)) is ∙ inner.adds r p text;
          told = inner.told;
        }

attributes-passed : (input : List ℕ) (members : Entries) (Q : Entries → Type 0) → Passes Q → MembersCopied input members
    → Passed (attributes input members) (entries_depth members) Q
attributes-passed input members Q passes all =
    both-passed (where_some (value_in (codes "id") members) (member (codes ",\"id\":") (as_it_stands input)))
    (where_some (value_in (codes "properties") members) (properties_part input)) (entries_depth members) Q
    (id-passed input members Q passes all) (properties-passed input members Q passes all)

id-other : (k : Geometry) → bytes_eq (codes "id") (name_for k) ≡ false
id-other geometry.Point = refl
id-other geometry.MultiPoint = refl
id-other geometry.Polygon = refl
id-other geometry.MultiPolygon = refl
id-other geometry.GeometryCollection = refl

properties-other : (k : Geometry) → bytes_eq (codes "properties") (name_for k) ≡ false
properties-other geometry.Point = refl
properties-other geometry.MultiPoint = refl
properties-other geometry.Polygon = refl
properties-other geometry.MultiPolygon = refl
properties-other geometry.GeometryCollection = refl

behind-passes : (k : Geometry) (P : Tree → Type 0) → Passes (Behind (name_for k) P)
behind-passes k P = record {
  id = λ ms is. behind-passed (codes "id") (name_for k) Any P ms refl (id-other k) is;
  properties = λ ms is. behind-passed (codes "properties") (name_for k) Any P ms refl (properties-other k) is;
}

no_type-passes : Passes NoType
no_type-passes = record {
  id = λ ms is. no_type-passed (codes "id") Any ms refl is;
  properties = λ ms is. no_type-passed (codes "properties") Any ms refl is;
}

-- ---- a feature

abbrev type_head : List ℕ
type_head = codes "{\"type\":"

feature-adds : (input : List ℕ) (members : Entries) (t : Tree) (r : List (List ℤ)) (p : List Place) (a w : List ℕ) (s : List (List ℤ))
    (q : List Place) → Adds (attributes input members) r p a r p → Adds (contents t) r p w s q
    → Adds (feature_of input members t) r p ((((type_head ++ type_text (shape_of t)) ++ a) ++ w) ++ codes "}") s q
feature-adds input members t r p a w s q attribute adds =
    let tw = type_text (shape_of t) in
    let opening : Adds (opened t) r p (type_head ++ tw) r p = then-adds (written type_head) (written tw) r p type_head r p tw r p
    (written-adds type_head r p) (written-adds tw r p) in
    let middle : Adds (λ d. attributes input members (opened t d)) r p ((type_head ++ tw) ++ a) r p = then-adds (opened t)
    (attributes input members) r p (type_head ++ tw) r p a r p opening attribute in
    let inner : Adds (λ d. contents t (attributes input members (opened t d))) r p (((type_head ++ tw) ++ a) ++ w) s q = then-adds
    (λ d. attributes input members (opened t d)) (contents t) r p ((type_head ++ tw) ++ a) r p w s q middle adds in
    then-adds (λ d. contents t (attributes input members (opened t d))) (written (codes "}")) r p (((type_head ++ tw) ++ a) ++ w) s q
    (codes "}") s q inner (written-adds (codes "}") s q)

object-feature : (arcs : List (List Place)) (input : List ℕ) (members : Entries) (t : Tree) (r : List (List ℤ)) (p : List Place)
    (s : List (List ℤ)) (q ps : List Place) (gs : List (List ℕ)) (n : ℕ) → MembersCopied input members
    → tree_depth t ≤ entries_depth members
    → ContentsDone arcs t r p s q ps gs n → Done (feature_of input members t) r p (GeometryReads arcs ps gs n) (entries_depth members + 1) s
    q
object-feature arcs input members t r p s q ps gs n all within c =
    let k = c.its_kind in
    let depth = entries_depth members in
    let Reading = Ready arcs (kind_for k) (name_for k) ps gs n in
    let Rest = Behind (name_for k) Reading in
    let a = attributes-passed input members Rest (behind-passes k Reading) all in
    let w = word_for k in
    let word = told-so (IsTextTree w) (IsTextTree w) 0 depth (quoted w) (λ u is. is) (omega arith)
    (told-from (IsTextTree w) 0 (quoted w) (word-spelled w (word-letters k))) in
    let rest = a.told depth c.word (omega arith) (c.told depth (omega (arith, within))) in
    let entry = entry-told (IsTextTree w) Rest depth (quoted w) (a.word ++ c.word) word rest in
    let read = told-so (IsObjectTree (StartsWith (codes "type") (IsTextTree w) Rest)) (GeometryReads arcs ps gs n) (depth + 1) (depth + 1)
    ((type_head ++ quoted w) ++ (a.word ++ c.word) ++ codes "}")
    (λ u is. entry-read arcs (kind_for k) w (name_for k) ps gs n u (word-kind k) (name-other k) is) (omega arith) entry in
    record {
      word = (((type_head ++ type_text (shape_of t)) ++ a.word) ++ c.word) ++ codes "}";
      adds = feature-adds input members t r p a.word c.word s q (a.adds r p) c.adds;
      told = subst (λ (l : List ℕ). Told (GeometryReads arcs ps gs n) (depth + 1) ((((type_head ++ l) ++ a.word) ++ c.word) ++ codes "}"))
          (sym c.shape_is)
          (subst (λ (l : List ℕ). Told (GeometryReads arcs ps gs n) (depth + 1) (l ++ codes "}"))
          (sym (append_assoc (type_head ++ quoted w) a.word c.word)) read);
    }

null-told : (depth : ℕ) → Told IsNull depth (codes "null")
null-told depth = record {
  form = Null;
  valid = tt;
  deep = omega arith;
  spelled = λ rest. refl;
  utf8 = IsUtf8-from_ascii (codes "null") (IsAscii-cons 110 (117 ∷ 108 ∷ 108 ∷ []) (omega arith)
      (IsAscii-cons 117 (108 ∷ 108 ∷ []) (omega arith)
      (IsAscii-cons 108 (108 ∷ []) (omega arith) (IsAscii-cons 108 [] (omega arith) IsAscii-nil))));
  tree = λ place. tt;
}

null-feature : (arcs : List (List Place)) (input : List ℕ) (members : Entries) (e : Extent) (r : List (List ℤ)) (p : List Place)
    → MembersCopied input members → Done (feature_of input members (NullAt e)) r p (GeometryReads arcs [] [] 0) (entries_depth members + 1)
    r p
null-feature arcs input members e r p all =
    let depth = entries_depth members in
    let a = attributes-passed input members NoType no_type-passes all in
    let rest = a.told depth [] (omega arith) (rest-none NoType depth refl) in
    let entry = entry-told IsNull NoType depth (codes "null") (a.word ++ []) (null-told depth) rest in
    let read = told-so (IsObjectTree (StartsWith (codes "type") IsNull NoType)) (GeometryReads arcs [] [] 0) (depth + 1) (depth + 1)
    ((type_head ++ codes "null") ++ (a.word ++ []) ++ codes "}") (λ u is. null-read arcs u is) (omega arith) entry in
    record {
      word = (((type_head ++ codes "null") ++ a.word) ++ []) ++ codes "}";
      adds = feature-adds input members (NullAt e) r p a.word [] r p (a.adds r p) (nothing-adds r p);
      told = subst (λ (l : List ℕ). Told (GeometryReads arcs [] [] 0) (depth + 1) (l ++ codes "}"))
          (sym (append_assoc (type_head ++ codes "null") a.word [])) read;
    }

-- ---- features that were read

abbrev last_step : Geo → Entries → Result Geo GeoFault
last_step read members = and_then (id_of members) (λ id. and_then (properties_of members) (λ properties. Ok read))

last-same : (read after : Geo) (members : Entries) → last_step read members ≡ Ok after → read ≡ after
last-same read after members h =
    let id = then-ok (id_of members) (λ id. and_then (properties_of members) (λ properties. Ok read)) after h in
    let properties = then-ok (properties_of members) (λ properties. Ok read) after id.2 in
    same-ok read after properties.2

feature-is : (arcs : List (List Place)) (input : List ℕ) (members : Entries) (value : Tree) (before middle after : Geo)
    → value_in (codes "geometry") members ≡ Some value → middle ≡ after
    → Walked arcs before middle (WritesEntry arcs (feature_of input members value) (entries_depth members + 1))
    → Walked arcs before after (WritesEntry arcs (feature_in input members) (entries_depth members + 1))
feature-is arcs input members value before middle after found same walked = record {
  points = walked.points;
  counts = walked.counts;
  points_are = ap (λ (g : Geo). g.points) (sym same) ∙ walked.points_are;
  counts_are = ap (λ (g : Geo). g.polygons) (sym same) ∙ walked.counts_are;
  rings_are = ap (λ (g : Geo). length g.rings) (sym same) ∙ walked.rings_are;
  on_grid = λ on. subst AreOnGrid (ap (λ (g : Geo). g.rings) same) (walked.on_grid on);
  write = λ own rest left long loops.
      let done = walked.write own rest left long loops in
      record {
        word = done.word;
        adds = λ text. ap (λ (o : Option Tree). where_some o (feature_of input members) (draft text (own ++ rest) (walked.points ++ left)))
            found ∙ done.adds text;
        told = done.told;
      };
}

null-walked : (arcs : List (List Place)) (input : List ℕ) (members : Entries) (e : Extent) (before after : Geo)
    → MembersCopied input members → before ≡ after
    → Walked arcs before after (WritesEntry arcs (feature_of input members (NullAt e)) (entries_depth members + 1))
null-walked arcs input members e before after all same = record {
  points = [];
  counts = [];
  points_are = ap (λ (g : Geo). g.points) (sym same) ∙ sym (append-nil before.points);
  counts_are = ap (λ (g : Geo). g.polygons) (sym same) ∙ sym (append-nil before.polygons);
  rings_are = omega (arith, ap (λ (g : Geo). length g.rings) (sym same));
  on_grid = λ on. subst AreOnGrid (ap (λ (g : Geo). g.rings) same) on;
  write = λ own rest left none loops.
      subst (λ (l : List (List ℤ)). WritesEntry arcs (feature_of input members (NullAt e)) (entries_depth members + 1) [] [] l rest left)
      (sym (no-own own none)) (null-feature arcs input members e rest left all);
}

object-walked : (arcs : List (List Place)) (input : List ℕ) (members : Entries) (e : Extent) (ms : Entries) (before after : Geo)
    → MembersCopied input members → tree_depth (ObjectAt e ms) ≤ entries_depth members
    → Walked arcs before after (WritesContents arcs (ObjectAt e ms))
    → Walked arcs before after (WritesEntry arcs (feature_of input members (ObjectAt e ms)) (entries_depth members + 1))
object-walked arcs input members e ms before after all within walked = record {
  points = walked.points;
  counts = walked.counts;
  points_are = walked.points_are;
  counts_are = walked.counts_are;
  rings_are = walked.rings_are;
  on_grid = walked.on_grid;
  write = λ own rest left long loops.
      object-feature arcs input members (ObjectAt e ms) (own ++ rest) (walked.points ++ left) rest left walked.points
      (polygons_named walked.counts own) (sum_by length own) all within (walked.write own rest left long loops);
}

module _ (arcs : List (List Place)) (few : length arcs ≤ 2 ^ 20) (input : List ℕ) where
  value-walked : (members : Entries) (value : Tree) (before after : Geo) → MembersCopied input members
      → tree_depth value ≤ entries_depth members → geometry_or_null value before ≡ Ok after
      → Walked arcs before after (WritesEntry arcs (feature_of input members value) (entries_depth members + 1))
  value-walked members (NullAt e) before after all within h = null-walked arcs input members e before after all (same-ok before after h)
  value-walked members (FalseAt e) before after all within h = not-ok _ after h
  value-walked members (TrueAt e) before after all within h = not-ok _ after h
  value-walked members (NumberAt e whole) before after all within h = not-ok _ after h
  value-walked members (TextAt e word) before after all within h = not-ok _ after h
  value-walked members (ListAt e trees) before after all within h = not-ok _ after h
  value-walked members (ObjectAt e ms) before after all within h = object-walked arcs input members e ms before after all within
      (geometry-walked arcs few e ms before after h)

  feature-walked : (holder : Tree) (members : Entries) (before after : Geo) → MembersCopied input members
      → read_feature holder members before ≡ Ok after
      → Walked arcs before after (WritesEntry arcs (feature_in input members) (entries_depth members + 1))
  feature-walked holder members before after all h =
      let type = then-ok (required (codes "type") holder members)
      (λ type. and_then (feature_type type) (λ named. and_then (required (codes "geometry") holder members)
      (λ value. and_then (geometry_or_null value before) (λ read. last_step read members)))) after h in
      let named = then-ok (feature_type type.0)
      (λ named. and_then (required (codes "geometry") holder members)
      (λ value. and_then (geometry_or_null value before) (λ read. last_step read members))) after type.2 in
      let value = then-ok (required (codes "geometry") holder members)
      (λ value. and_then (geometry_or_null value before) (λ read. last_step read members)) after named.2 in
      let read = then-ok (geometry_or_null value.0 before) (λ read. last_step read members) after value.2 in
      let found = found-value (codes "geometry") holder members value.0 value.1 in
      let within = (found-copied input (codes "geometry") members value.0 all found).within in
      feature-is arcs input members value.0 before read.0 after found (last-same read.0 after members read.2)
      (value-walked members value.0 before read.0 all within read.1)

  features-walked : (trees : Trees) (before after : Geo) → EachCopied input trees → each read_feature_of trees before ≡ Ok after
      → Walked arcs before after (WritesEach arcs (feature input) trees)
  features-walked NoTrees before after all h = none-walked arcs (feature input) before after (same-ok before after h)
  features-walked (NextTree (NullAt e) others) before after all h = not-ok _ after h
  features-walked (NextTree (FalseAt e) others) before after all h = not-ok _ after h
  features-walked (NextTree (TrueAt e) others) before after all h = not-ok _ after h
  features-walked (NextTree (NumberAt e whole) others) before after all h = not-ok _ after h
  features-walked (NextTree (TextAt e word) others) before after all h = not-ok _ after h
  features-walked (NextTree (ListAt e trees) others) before after all h = not-ok _ after h
  features-walked (NextTree (ObjectAt e members) others) before after all h =
      let step = then-ok (read_feature (ObjectAt e members) members before) (each read_feature_of others) after h in
      next-walked arcs (feature input) (ObjectAt e members) others before step.0 after
      (feature-walked (ObjectAt e members) members before step.0 all.0.1 step.1) (features-walked others step.0 after all.1 step.2)

-- ---- one entry alone

alone-done : (arcs : List (List Place)) (part : Draft → Draft) (r : List (List ℤ)) (p : List Place) (s : List (List ℤ)) (q ps : List Place)
    (gs : List (List ℕ)) (n depth : ℕ) → Done part r p (GeometryReads arcs ps gs n) depth s q
    → Done (alone part) r p (IsListTree (GeometriesRead arcs ps gs n)) (depth + 1) s q
alone-done arcs part r p s q ps gs n depth d =
    let None = λ (others : Trees). others ≡ NoTrees in
    let holds = λ (t : Tree) (others : Trees) (is : GeometryReads arcs ps gs n t) (none : others ≡ NoTrees).
    subst (λ (o : Trees). GeometriesRead arcs ps gs n (NextTree t o)) (sym none)
    (λ seen room. ap (λ (z : Result Seen ReadFault). and_then z (geometries_of arcs NoTrees)) (is seen room)) in
    let one = texts-next (GeometryReads arcs ps gs n) None (GeometriesRead arcs ps gs n) depth 0 d.word [] holds d.told refl in
    let list = told-so (IsListTree (GeometriesRead arcs ps gs n)) (IsListTree (GeometriesRead arcs ps gs n)) (max depth 0 + 1) (depth + 1)
    (codes "[" ++ (d.word ++ []) ++ codes "]") (λ t is. is) (omega arith)
    (list-told (GeometriesRead arcs ps gs n) (max depth 0) (d.word ∷ []) one) in
    let opening = then-adds (written (codes "[")) part r p (codes "[") r p d.word s q (written-adds (codes "[") r p) d.adds in
    record {
      word = (codes "[" ++ d.word) ++ codes "]";
      adds = then-adds (λ d. part (written (codes "[") d)) (written (codes "]")) r p (codes "[" ++ d.word) s q (codes "]") s q opening
          (written-adds (codes "]") s q);
      told = subst (λ (l : List ℕ). Told (IsListTree (GeometriesRead arcs ps gs n)) (depth + 1) (codes "[" ++ l ++ codes "]"))
          (append-nil d.word) list;
    }

alone-walked : (arcs : List (List Place)) (part : Draft → Draft) (depth : ℕ) (before after : Geo)
    → Walked arcs before after (WritesEntry arcs part depth) → Walked arcs before after (WritesEntries arcs (alone part) (depth + 1))
alone-walked arcs part depth before after walked = record {
  points = walked.points;
  counts = walked.counts;
  points_are = walked.points_are;
  counts_are = walked.counts_are;
  rings_are = walked.rings_are;
  on_grid = walked.on_grid;
  write = λ own rest left long loops.
      alone-done arcs part (own ++ rest) (walked.points ++ left) rest left walked.points (polygons_named walked.counts own)
      (sum_by length own) depth (walked.write own rest left long loops);
}

-- the same entries by another part, which does the same, and with more room
same-entries : (arcs : List (List Place)) (part other : Draft → Draft) (depth limit : ℕ) (before after : Geo)
    → ((d : Draft) → other d ≡ part d) → depth ≤ limit → Walked arcs before after (WritesEntries arcs part depth)
    → Walked arcs before after (WritesEntries arcs other limit)
same-entries arcs part other depth limit before after same within walked = record {
  points = walked.points;
  counts = walked.counts;
  points_are = walked.points_are;
  counts_are = walked.counts_are;
  rings_are = walked.rings_are;
  on_grid = walked.on_grid;
  write = λ own rest left long loops.
      let done = walked.write own rest left long loops in
      let Q = IsListTree (GeometriesRead arcs walked.points (polygons_named walked.counts own) (sum_by length own)) in
      record {
        word = done.word;
        adds = λ text. same (draft text (own ++ rest) (walked.points ++ left))
            ∙ done.adds text;
        told = told-so Q Q depth limit done.word (λ t is. is) within done.told;
      };
}

-- ---- the entries of a text

module _ (arcs : List (List Place)) (few : length arcs ≤ 2 ^ 20) (input : List ℕ) where
  list_of_features-walked : (value : Tree) (before after : Geo) → AllCopied input value
      → and_then (list_of value) (λ trees. each read_feature_of trees before) ≡ Ok after
      → Walked arcs before after (WritesEntries arcs (list_added (feature input) value) (tree_depth value))
  list_of_features-walked (NullAt e) before after all h = not-ok _ after h
  list_of_features-walked (FalseAt e) before after all h = not-ok _ after h
  list_of_features-walked (TrueAt e) before after all h = not-ok _ after h
  list_of_features-walked (NumberAt e whole) before after all h = not-ok _ after h
  list_of_features-walked (TextAt e word) before after all h = not-ok _ after h
  list_of_features-walked (ListAt e trees) before after all h = entries-walked arcs (feature input) e trees before after
      (features-walked arcs few input trees before after all.1 h)
  list_of_features-walked (ObjectAt e members) before after all h = not-ok _ after h

  collection-walked : (e : Extent) (members : Entries) (after : Geo) → AllCopied input (ObjectAt e members)
      → tree_depth (ObjectAt e members) ≤ 60 → read_features (ObjectAt e members) members no_geo ≡ Ok after
      → Walked arcs no_geo after (WritesEntries arcs (where_some (value_in (codes "features") members) (list_added (feature input))) 61)
  collection-walked e members after all deep h =
      let value = then-ok (required (codes "features") (ObjectAt e members) members)
      (λ value. and_then (list_of value) (λ trees. each read_feature_of trees no_geo)) after h in
      let found = found-value (codes "features") (ObjectAt e members) members value.0 value.1 in
      let among = once-among (codes "features") members value.0
      (required-once (codes "features") (ObjectAt e members) members value.0 (sym value.1)) in
      same-entries arcs (list_added (feature input) value.0) (where_some (value_in (codes "features") members) (list_added (feature input)))
      (tree_depth value.0) 61 no_geo after
      (λ d. ap (λ (o : Option Tree). where_some o (list_added (feature input)) d) found)
      (omega (arith, among-depth value.0 members among, deep))
      (list_of_features-walked value.0 no_geo after (among-copied input value.0 members all.1 among) value.2)

  by_type-walked : (e : Extent) (members : Entries) (type : Tree) (after : Geo) → AllCopied input (ObjectAt e members)
      → tree_depth (ObjectAt e members) ≤ 60 → read_by_type type (ObjectAt e members) members no_geo ≡ Ok after
      → Walked arcs no_geo after (WritesEntries arcs (by_type input (ObjectAt e members) members type) 61)
  by_type-walked e members type after all deep h = at_case (is_text (codes "FeatureCollection") type) (is_text (codes "Feature") type) refl
      refl
    where
      at_case : (a b : Bool) → is_text (codes "FeatureCollection") type ≡ a → is_text (codes "Feature") type ≡ b
          → Walked arcs no_geo after (WritesEntries arcs (by_type input (ObjectAt e members) members type) 61)
      at_case true b first second =
          same-entries arcs (where_some (value_in (codes "features") members) (list_added (feature input)))
          (by_type input (ObjectAt e members) members type) 61 61 no_geo after
          (λ d. ap (λ (f : Draft → Draft). f d) (cond-true (is_text (codes "FeatureCollection") type) _ _ first)) (omega arith)
          (collection-walked e members after all deep (sym (cond-true (is_text (codes "FeatureCollection") type) _ _ first) ∙ h))
      at_case false true first second =
          same-entries arcs (alone (feature_in input members)) (by_type input (ObjectAt e members) members type)
          (entries_depth members + 1 + 1) 61 no_geo after
          (λ d. ap (λ (f : Draft → Draft). f d) (cond-false (is_text (codes "FeatureCollection") type) _ _ first
          ∙ cond-true (is_text (codes "Feature") type) _ _ second)) (omega (arith, deep))
          (alone-walked arcs (feature_in input members) (entries_depth members + 1) no_geo after
          (feature-walked arcs few input (ObjectAt e members) members no_geo after all.1
          (sym (cond-false (is_text (codes "FeatureCollection") type) _ _ first ∙ cond-true (is_text (codes "Feature") type) _ _ second)
          ∙ h)))
      at_case false false first second =
          same-entries arcs (alone (written_geometry (ObjectAt e members))) (by_type input (ObjectAt e members) members type)
          (entries_depth members + 1 + 1) 61 no_geo after
          (λ d. ap (λ (f : Draft → Draft). f d) (cond-false (is_text (codes "FeatureCollection") type) _ _ first
          ∙ cond-false (is_text (codes "Feature") type) _ _ second)) (omega (arith, deep))
          (alone-walked arcs (written_geometry (ObjectAt e members)) (entries_depth members + 1) no_geo after
          (entry-walked arcs e members no_geo after
          (geometry-walked arcs few e members no_geo after
          (sym (cond-false (is_text (codes "FeatureCollection") type) _ _ first ∙ cond-false (is_text (codes "Feature") type) _ _ second)
          ∙ h))))

  pub top-walked : (t : Tree) (after : Geo) → AllCopied input t → tree_depth t ≤ 60 → geojson_of t ≡ Ok after
      → Walked arcs no_geo after (WritesEntries arcs (entries input t) 61)
  top-walked (NullAt e) after all deep h = not-ok _ after h
  top-walked (FalseAt e) after all deep h = not-ok _ after h
  top-walked (TrueAt e) after all deep h = not-ok _ after h
  top-walked (NumberAt e whole) after all deep h = not-ok _ after h
  top-walked (TextAt e word) after all deep h = not-ok _ after h
  top-walked (ListAt e trees) after all deep h = not-ok _ after h
  top-walked (ObjectAt e members) after all deep h =
      let type = then-ok (required (codes "type") (ObjectAt e members) members)
      (λ type. read_by_type type (ObjectAt e members) members no_geo) after h in
      let found = found-value (codes "type") (ObjectAt e members) members type.0 type.1 in
      same-entries arcs (by_type input (ObjectAt e members) members type.0) (entries input (ObjectAt e members)) 61 61 no_geo after
      (λ d. ap (λ (o : Option Tree). where_some o (by_type input (ObjectAt e members) members) d) found) (omega arith)
      (by_type-walked e members type.0 after all deep type.2)
