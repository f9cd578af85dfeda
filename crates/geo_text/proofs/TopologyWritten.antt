-- The text of a built topology reads as its map.
use Rattle.std.specs.Prelude.{codes, sum, if◌then◌else◌}
use Rattle.std.proofs.Common.{◌≡◌, ℕ, suc, ◌+◌, ◌^◌, ◌≤◌, max, true, false, List, [], ◌∷◌, ◌++◌, length, sum_by, map, ℤ, Result, Ok, IsUtf8}
use Rattle.std.proofs.Common.{refl, sym, ap, subst, ◌∙◌, arith, append_assoc, append-nil}
use Rattle.std.specs.List.{AllByRecursion}
use Rattle.std.proofs.lemmas.List.Sums.{sum_by-le-sum_by}
use Rattle.grid_exact.specs.Geometry.{Place}
use Rattle.arc_map.specs.Map.{Map, IsMap, IsArc}
use Rattle.json_scan.specs.Grammar.{Document, IsJson, value_depth, document_nodes}
use Rattle.json_scan.specs.Tree.{Extent, extent_of, Tree, TextAt, ObjectAt, Entries, NoEntries, NextEntry, value_tree, document_tree}
use Rattle.topo_reader.specs.declared.fault.ReadFault.{ReadFault}
use Rattle.topo_reader.specs.declared.geometry.Geometry.TheVariants as kind
use Rattle.topo_reader.specs.Sequence.{and_then}
use Rattle.topo_reader.specs.Arcs.{arcs_value}
use Rattle.topo_reader.specs.Geometries.{Seen, nothing_seen, geometry_of, objects_from, objects_of}
use Rattle.topo_reader.specs.Reads.{TopologyRead, map_of, topology_of}
use Rattle.topo_reader.proofs.ArcLaws.{not-ok}
use Rattle.topo_writer.specs.Texts.{list_text}
use Rattle.topo_writer.specs.ArcsText.{arc_text, arcs_text_of}
use Rattle.topo_writer.specs.Reading.{ReadsAs}
use Rattle.topo_writer.proofs.TreeShapes.{IsListTree, AreTrees}
use Rattle.topo_writer.proofs.TreeArcs.{IsGridPlace, IsGridArc, IsWrittenArc, written_length, written-read}
use Rattle.topo_writer.proofs.ArcForms.{arcs-spelled}
use Rattle.topo_build.specs.Built.{IsBuilt}
use Rattle.topo_build.specs.References.{polygons_of as polygons_named}
use Rattle.geo_reader.specs.Geo.{Geo, IsGeo, no_geo}
use Rattle.geo_reader.specs.GeoJson.{geojson_of}
use Rattle.geo_reader.proofs.GeoLaws.{geojson-is}
use Rattle.geo_text.specs.Drafts.{Draft, written}
use Rattle.geo_text.specs.BuiltText.{head, nothing_written, topology, built_text_of, entries}
use Rattle.geo_text.proofs.Readable.{written_count}
use Rattle.geo_text.proofs.Words.{IsTextTree, IsObjectTree, StartsWith, IsEnd, are_letters, quoted, word-spelled}
use Rattle.geo_text.proofs.Told.{Told, told-from, told-so, ToldMembers, ToldMore, NoMore, More, member-told, braced-told, rest-last}
use Rattle.geo_text.proofs.Told.{entry-told, member_text}
use Rattle.geo_text.proofs.Depths.{tree_depth, value-depth}
use Rattle.geo_text.proofs.Copies.{document-copied}
use Rattle.geo_text.proofs.Adding.{draft, Adds, written-adds, then-adds}
use Rattle.geo_text.proofs.EntriesRead.{seen_more, HasRoom, GeometryReads, GeometriesRead, Behind, behind-value, Ready, entry-read}
use Rattle.geo_text.proofs.EntriesRead.{collection-ready}
use Rattle.geo_text.proofs.FeaturesWritten.{top-walked}
use Rattle.geo_text.proofs.ReadableBuilt.{rings-long, built-readable}

-- ---- the member that ends an object

last-told : (P : Tree → Type 0) (depth : ℕ) (name text : List ℕ) → are_letters name ≡ true → Told P depth text
    → ToldMembers (StartsWith name P IsEnd) depth (member_text name text)
last-told P depth name text letters s = subst (ToldMembers (StartsWith name P IsEnd) depth) (append-nil (member_text name text))
    (member-told P IsEnd depth name text letters s (NoMore tt))

word-told : (word : List ℕ) (depth : ℕ) → are_letters word ≡ true → Told (IsTextTree word) depth (quoted word)
word-told word depth letters = told-so (IsTextTree word) (IsTextTree word) 0 depth (quoted word) (λ t is. is) (omega arith)
    (told-from (IsTextTree word) 0 (quoted word) (word-spelled word letters))

-- ---- what is read of the parts

module _ (arcs : List (List Place)) (ps : List Place) (gs : List (List ℕ)) (n : ℕ) where
  abbrev pub HoldsObjects : Tree → Type 0
  HoldsObjects t = objects_of arcs t nothing_seen ≡ Ok (seen_more nothing_seen ps gs n)

  objects-read : (t : Tree) → HasRoom nothing_seen (length ps) (length gs) n
      → IsObjectTree (StartsWith (codes "features") (GeometryReads arcs ps gs n) IsEnd) t → HoldsObjects t
  objects-read (ObjectAt e NoEntries) room is = absurd is
  objects-read (ObjectAt e (NextEntry f label t NoEntries)) room is = ap
      (λ (r : Result Seen ReadFault). and_then r (objects_from arcs NoEntries)) (is.1 nothing_seen room)
  objects-read (ObjectAt e (NextEntry f label t (NextEntry g other u more))) room is = absurd is.2
  objects-read t room is = absurd is

abbrev pub HoldsTopology : Map → Tree → Type 0
HoldsTopology m t = (at : Extent) × (topology_of t ≡ Ok (record { map = m; arcs_at = at }))

abbrev topology_at : Extent → Extent → Extent → Extent → Extent → Tree → Tree → Tree
topology_at e f g h i objects arcs = ObjectAt e
    (NextEntry f (codes "type") (TextAt g (codes "Topology"))
    (NextEntry h (codes "objects") objects (NextEntry i (codes "arcs") arcs NoEntries)))

abbrev topology_members : Extent → Extent → Extent → Extent → Tree → Tree → Entries
topology_members f g h i objects arcs = NextEntry f (codes "type") (TextAt g (codes "Topology"))
    (NextEntry h (codes "objects") objects (NextEntry i (codes "arcs") arcs NoEntries))

abbrev plain_map : List (List Place) → Seen → Map
plain_map arcs seen = record { arcs = arcs; points = seen.points; polygons = seen.polygons; coded = false }

abbrev map_seen : List (List Place) → Seen → Result Map ReadFault
map_seen arcs seen = Ok (plain_map arcs seen)

abbrev read_at : Extent → Map → Result TopologyRead ReadFault
read_at at m = Ok (record { map = m; arcs_at = at })

topology_at-read : (arcs : List (List Place)) (seen : Seen) (e f g h i : Extent) (objects value : Tree)
    → objects_of arcs objects nothing_seen ≡ Ok seen → arcs_value false value ≡ Ok arcs
    → HoldsTopology (plain_map arcs seen) (topology_at e f g h i objects value)
topology_at-read arcs seen e f g h i objects value holds are = (
  extent_of value,
  ap (λ (r : Result (List (List Place)) ReadFault). and_then r
      (λ (read : List (List Place)). and_then (map_of false read (topology_at e f g h i objects value)
      (topology_members f g h i objects value)) (read_at (extent_of value)))) are
      ∙ ap (λ (r : Result Seen ReadFault). and_then (and_then r (map_seen arcs)) (read_at (extent_of value))) holds,
)

abbrev IsTopologyObject : List (List Place) → Seen → Entries → Type 0
IsTopologyObject arcs seen =
    StartsWith (codes "type") (IsTextTree (codes "Topology"))
    (StartsWith (codes "objects") (λ t. objects_of arcs t nothing_seen ≡ Ok seen)
    (StartsWith (codes "arcs") (λ t. arcs_value false t ≡ Ok arcs) IsEnd))

topology-put : (arcs : List (List Place)) (seen : Seen) (e f g h i : Extent) (a b c word : List ℕ) (objects value : Tree) → a ≡ codes "type"
    → word ≡ codes "Topology" → b ≡ codes "objects" → c ≡ codes "arcs"
    → HoldsTopology (plain_map arcs seen) (topology_at e f g h i objects value)
    → HoldsTopology (plain_map arcs seen) (ObjectAt e
    (NextEntry f a (TextAt g word) (NextEntry h b objects (NextEntry i c value NoEntries))))
topology-put arcs seen e f g h i a b c word objects value p q r s holds =
    let Holds = HoldsTopology (plain_map arcs seen) in
    subst (λ (l : List ℕ). Holds (ObjectAt e (NextEntry f l (TextAt g word) (NextEntry h b objects (NextEntry i c value NoEntries)))))
    (sym p)
    (subst (λ (l : List ℕ). Holds (ObjectAt e
    (NextEntry f (codes "type") (TextAt g l) (NextEntry h b objects (NextEntry i c value NoEntries))))) (sym q)
    (subst (λ (l : List ℕ). Holds (ObjectAt e
    (NextEntry f (codes "type") (TextAt g (codes "Topology")) (NextEntry h l objects (NextEntry i c value NoEntries))))) (sym r)
    (subst (λ (l : List ℕ). Holds (ObjectAt e
    (NextEntry f (codes "type") (TextAt g (codes "Topology")) (NextEntry h (codes "objects") objects (NextEntry i l value NoEntries)))))
    (sym s) holds)))

topology-typed : (arcs : List (List Place)) (seen : Seen) (e f h i : Extent) (a b c : List ℕ) (type objects value : Tree)
    → IsTextTree (codes "Topology") type → a ≡ codes "type" → b ≡ codes "objects" → c ≡ codes "arcs"
    → objects_of arcs objects nothing_seen ≡ Ok seen → arcs_value false value ≡ Ok arcs
    → HoldsTopology (plain_map arcs seen) (ObjectAt e (NextEntry f a type (NextEntry h b objects (NextEntry i c value NoEntries))))
topology-typed arcs seen e f h i a b c (TextAt g word) objects value is p q r holds are = topology-put arcs seen e f g h i a b c word
    objects value p is q r (topology_at-read arcs seen e f g h i objects value holds are)
topology-typed arcs seen e f h i a b c type objects value is p q r holds are = absurd is

topology-read : (arcs : List (List Place)) (seen : Seen) (t : Tree) → IsObjectTree (IsTopologyObject arcs seen) t
    → HoldsTopology (plain_map arcs seen) t
topology-read arcs seen (ObjectAt e NoEntries) is = absurd is
topology-read arcs seen (ObjectAt e (NextEntry f a type NoEntries)) is = absurd is.2
topology-read arcs seen (ObjectAt e (NextEntry f a type (NextEntry h b objects NoEntries))) is = absurd is.2.2
topology-read arcs seen (ObjectAt e (NextEntry f a type (NextEntry h b objects (NextEntry i c value NoEntries)))) is = topology-typed arcs
    seen e f h i a b c type objects value is.1 is.0 is.2.0 is.2.2.0 is.2.1 is.2.2.1
topology-read arcs seen (ObjectAt e (NextEntry f a type (NextEntry h b objects (NextEntry i c value (NextEntry j d more others)))))
    is = absurd is.2.2.2
topology-read arcs seen t is = absurd is

-- ---- the text

regrouped : (list arcs middle : List ℕ) → (((list ++ 125 ∷ []) ++ 125 ∷ []) ++ (middle ++ arcs)) ++ 125 ∷ [] ≡ ((list ++ (125 ∷ 125 ∷
    middle)) ++ arcs) ++ 125 ∷ []
regrouped list arcs middle = simp append_assoc

abbrev collection_text : List ℕ → List ℕ
collection_text list = 123 ∷ ((member_text (codes "type") (quoted (codes "GeometryCollection")) ++ 44 ∷ member_text (codes "geometries")
    list) ++ 125 ∷ [])

abbrev objects_text : List ℕ → List ℕ
objects_text list = 123 ∷ (member_text (codes "features") (collection_text list) ++ 125 ∷ [])

abbrev joined_text : List ℕ → List ℕ → List ℕ
joined_text list arcs = 123 ∷ ((member_text (codes "type")
    (quoted (codes "Topology")) ++ 44 ∷ (member_text (codes "objects") (objects_text list) ++ 44 ∷ member_text (codes "arcs")
    arcs)) ++ 125 ∷ [])

-- the words of the text, one behind the other
abbrev whole_text : List ℕ → List ℕ → List ℕ
whole_text list arcs = (((head ++ list) ++ codes "}},\"arcs\":") ++ arcs) ++ codes "}"

all-joined : (list arcs : List ℕ) → joined_text list arcs ≡ whole_text list arcs
unfolding head
all-joined list arcs = ap (λ (l : List ℕ). codes
    "{\"type\":\"Topology\",\"objects\":{\"features\":{\"type\":\"GeometryCollection\",\"geometries\":" ++ l)
    (regrouped list arcs (codes ",\"arcs\":"))

whole-told : (m : Map) (list arcs : List ℕ) (ps : List Place) (gs : List (List ℕ)) (n : ℕ) → HasRoom nothing_seen (length ps) (length gs) n
    → Told (IsListTree (GeometriesRead m.arcs ps gs n)) 61 list → Told (λ t. arcs_value false t ≡ Ok m.arcs) 3 arcs
    → Told (HoldsTopology (plain_map m.arcs (seen_more nothing_seen ps gs n))) 64 (joined_text list arcs)
whole-told m list arcs ps gs n room entries value =
    let Reading = Ready m.arcs kind.GeometryCollection (codes "geometries") ps gs n in
    let Rest = Behind (codes "geometries") Reading in
    let seen = seen_more nothing_seen ps gs n in
    let Objects = λ (t : Tree). objects_of m.arcs t nothing_seen ≡ Ok seen in
    let Arcs = λ (t : Tree). arcs_value false t ≡ Ok m.arcs in
    let geometries = told-so (IsListTree (GeometriesRead m.arcs ps gs n)) Reading 61 61 list (λ t is. collection-ready m.arcs ps gs n t is)
    (omega arith) entries in
    let rest = rest-last Reading Rest 61 (codes "geometries") list refl (λ ms is. behind-value (codes "geometries") Reading ms refl refl is)
    geometries in
    let collection = entry-told (IsTextTree (codes "GeometryCollection")) Rest 61 (quoted (codes "GeometryCollection"))
    (44 ∷ member_text (codes "geometries") list) (word-told (codes "GeometryCollection") 61 refl) rest in
    let read = told-so (IsObjectTree (StartsWith (codes "type") (IsTextTree (codes "GeometryCollection")) Rest))
    (GeometryReads m.arcs ps gs n) 62 62 (collection_text list)
    (λ t is. entry-read m.arcs kind.GeometryCollection (codes "GeometryCollection") (codes "geometries") ps gs n t refl refl is)
    (omega arith) collection in
    let features = braced-told (StartsWith (codes "features") (GeometryReads m.arcs ps gs n) IsEnd) 62
    (member_text (codes "features") (collection_text list))
    (last-told (GeometryReads m.arcs ps gs n) 62 (codes "features") (collection_text list) refl read) in
    let objects = told-so (IsObjectTree (StartsWith (codes "features") (GeometryReads m.arcs ps gs n) IsEnd)) Objects 63 63
    (objects_text list) (λ t is. objects-read m.arcs ps gs n t room is) (omega arith) features in
    let last = last-told Arcs 63 (codes "arcs") arcs refl (told-so Arcs Arcs 3 63 arcs (λ t is. is) (omega arith) value) in
    let two = member-told Objects (StartsWith (codes "arcs") Arcs IsEnd) 63 (codes "objects") (objects_text list) refl objects
    (More (member_text (codes "arcs") arcs) last) in
    let three = member-told (IsTextTree (codes "Topology")) (StartsWith (codes "objects") Objects (StartsWith (codes "arcs") Arcs IsEnd)) 63
    (codes "type") (quoted (codes "Topology")) refl (word-told (codes "Topology") 63 refl)
    (More (member_text (codes "objects") (objects_text list) ++ 44 ∷ member_text (codes "arcs") arcs) two) in
    told-so (IsObjectTree (IsTopologyObject m.arcs seen)) (HoldsTopology (plain_map m.arcs seen)) 64 64 (joined_text list arcs)
    (λ t is. topology-read m.arcs seen t is) (omega arith)
    (braced-told (IsTopologyObject m.arcs seen) 63
    (member_text (codes "type") (quoted (codes "Topology")) ++ 44 ∷ (member_text (codes "objects") (objects_text list) ++ 44 ∷ member_text
    (codes "arcs") arcs)) three)

-- ---- the law

told-reads : (text : List ℕ) (m : Map) → Told (HoldsTopology m) 64 text → ReadsAs text m
told-reads text m s = record {
  utf8 = s.utf8;
  document = record { mark = false; before = []; value = s.form; after = [] };
  json = record {
    document = record { before = tt; value = s.valid; after = tt };
    depth = s.deep;
    spelled = sym (s.spelled [] ∙ append-nil text);
    its_nodes = refl;
  };
  arcs_at = (s.tree 0).0;
  topology = (s.tree 0).1;
}

topology-adds : (input : List ℕ) (t : Tree) (arcs : List ℕ) (r : List (List ℤ)) (p : List Place) (w : List ℕ) (s : List (List ℤ))
    (q : List Place) → Adds (entries input t) r p w s q
    → Adds (topology input t arcs) r p ((((head ++ w) ++ codes "}},\"arcs\":") ++ arcs) ++ codes "}") s q
topology-adds input t arcs r p w s q adds =
    let middle = codes "}},\"arcs\":" in
    let one = then-adds (written head) (entries input t) r p head r p w s q (written-adds head r p) adds in
    let two = then-adds (λ d. entries input t (written head d)) (written middle) r p (head ++ w) s q middle s q one
    (written-adds middle s q) in
    let three = then-adds (λ d. written middle (entries input t (written head d))) (written arcs) r p ((head ++ w) ++ middle) s q arcs s q
    two (written-adds arcs s q) in
    then-adds (λ d. written arcs (written middle (entries input t (written head d)))) (written (codes "}")) r p
    (((head ++ w) ++ middle) ++ arcs) s q (codes "}") s q three (written-adds (codes "}") s q)

length-named : (counts : List ℕ) (rings : List (List ℤ)) → length (polygons_named counts rings) ≡ length counts
length-named [] rings = refl
length-named (c ∷ cs) rings = ap suc (length-named cs _)

counted : (arc : List Place) → written_length arc ≤ written_count arc
counted [] = omega arith
counted (p ∷ []) = omega arith
counted (p ∷ q ∷ qs) = omega arith

grid-arcs : (arcs : List (List Place)) → AllByRecursion IsArc arcs → AllByRecursion (AllByRecursion IsGridPlace) arcs
    → AllByRecursion IsGridArc arcs
grid-arcs [] are on = tt
grid-arcs (arc ∷ arcs) are on = (record { is_arc = are.0; grid = on.0 }, grid-arcs arcs are.1 on.1)

same-map : (m : Map) (ps : List Place) (gs : List (List ℕ)) → ps ≡ m.points → gs ≡ m.polygons → false ≡ m.coded
    → record { arcs = m.arcs; points = ps; polygons = gs; coded = false } ≡ m
same-map m ps gs p q r = rw (p, q, r) refl

geo-is : (t : Tree) (geo : Geo) → geojson_of t ≡ Ok geo → IsGeo geo
geo-is (ObjectAt e members) geo h = geojson-is (ObjectAt e members) members geo h
geo-is t geo h = not-ok _ geo h

pub built-reads : (input : List ℕ) (d : Document) (geo : Geo) (m : Map) (rings : List (List ℤ)) → IsUtf8 input
    → IsJson 64 input (document_nodes d) d → value_depth d.value ≤ 60 → geojson_of (document_tree d) ≡ Ok geo → IsMap m
    → IsBuilt geo m rings
    → ReadsAs (built_text_of input (document_tree d) rings geo.points m) m
built-reads input d geo m rings utf8 json deep read is_map built =
    let t = document_tree d in
    let is_geo = geo-is t geo read in
    let long = rings-long geo m rings built in
    let copied = document-copied input d utf8 json.document json.spelled in
    let depth = value-depth d.value ((if d.mark then 3 else 0) + length d.before) in
    let walked = top-walked m.arcs is_map.few_arcs input t geo copied (omega (arith, depth, deep)) read in
    let readable = built-readable geo m rings is_geo (walked.on_grid tt) is_map built in
    let ps = walked.points in
    let gs = polygons_named walked.counts rings in
    let n = sum_by length rings in
    let points : geo.points ≡ ps = walked.points_are in
    let counts : geo.polygons ≡ walked.counts = walked.counts_are in
    let sums : sum walked.counts ≡ length rings = omega (arith, walked.rings_are, long) in
    let done = walked.write rings [] [] sums readable.loops in
    let arcs = arcs_text_of m in
    let each = grid-arcs m.arcs readable.arcs readable.on_grid in
    let room_positions : sum_by written_length m.arcs ≤ 2 ^ 20 = omega
    (arith, sum_by-le-sum_by written_length written_count m.arcs counted, readable.few_positions) in
    let spelled = subst (λ coded. Told (IsListTree (AreTrees (IsWrittenArc coded) m.arcs)) 3 (list_text (map (arc_text coded) m.arcs)))
    built.coded (told-from _ 3 arcs (arcs-spelled m.coded m.arcs each)) in
    let value : Told (λ u. arcs_value false u ≡ Ok m.arcs) 3 (list_text (map (arc_text false) m.arcs)) =
    told-so (IsListTree (AreTrees (IsWrittenArc false) m.arcs)) (λ u. arcs_value false u ≡ Ok m.arcs) 3 3
    (list_text (map (arc_text false) m.arcs)) (λ u is. written-read false m.arcs u each readable.few_arcs room_positions is) (omega arith)
    spelled in
    let arcs_same : list_text (map (arc_text false) m.arcs) ≡ arcs = ap (λ coded. list_text (map (arc_text coded) m.arcs)) (sym built.coded)
    in
    let room : HasRoom nothing_seen (length ps) (length gs) n =
    record {
      points = omega (arith, ap length points, is_geo.few_points);
      polygons = omega (arith, length-named walked.counts rings, ap length counts, is_geo.few_polygons);
      references = omega (arith, readable.few_references);
    } in
    let whole = whole-told m done.word arcs ps gs n room done.told
    (subst (λ l. Told (λ u. arcs_value false u ≡ Ok m.arcs) 3 l) arcs_same value) in
    let named : gs ≡ m.polygons = ap (λ l. polygons_named l rings) (sym counts) ∙ sym built.polygons in
    let its_map : plain_map m.arcs (seen_more nothing_seen ps gs n) ≡ m = same-map m ps gs (sym points ∙ sym built.points) named
    (sym built.coded) in
    let adds = topology-adds input t arcs (rings ++ []) (ps ++ []) done.word [] [] done.adds [] in
    let rings_same : rings ++ [] ≡ rings = append-nil rings in
    let points_same : ps ++ [] ≡ geo.points = append-nil ps ∙ sym points in
    let text : built_text_of input t rings geo.points m ≡ whole_text done.word arcs =
    ap (λ (r : List (List ℤ)). (topology input t arcs (nothing_written r geo.points)).text) (sym rings_same)
    ∙ ap (λ (p : List Place). (topology input t arcs (nothing_written (rings ++ []) p)).text) (sym points_same)
    ∙ ap (λ (x : Draft). x.text) adds in
    told-reads (built_text_of input t rings geo.points m) m
    (subst (λ (l : List ℕ). Told (HoldsTopology m) 64 l) (sym (text ∙ sym (all-joined done.word arcs)))
    (subst (λ (x : Map). Told (HoldsTopology x) 64 (joined_text done.word arcs)) its_map whole))
