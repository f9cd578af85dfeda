-- A text with the arcs of a map that fits in it reads back as that map.
use Rattle.std.specs.Prelude.{codes, if◌then◌else◌}
use Rattle.std.proofs.Common.{◌≡◌, ℕ, ◌+◌, ◌<◌, ◌≤◌, Bool, true, false, bytes_eq, List, [], ◌∷◌, ◌++◌, length, get_or, take, drop, Result}
use Rattle.std.proofs.Common.{Ok, Err, refl, sym, ap, subst, ◌∙◌, arith, append_assoc, take_at, drop_at, IsUtf8}
use Rattle.std.proofs.lemmas.List.{length-append, get_or_at}
use Rattle.std.proofs.lemmas.Str.{IsUtf8-append, IsUtf8-take, IsUtf8-drop, IsUtf8-from_ascii, IsCharBoundary-before_ascii}
use Rattle.std.proofs.lemmas.Slice.Eq.{bytes_eq-Decides}
use Rattle.std.specs.Str.{IsAscii, IsCharBoundary}
use Rattle.grid_exact.specs.Geometry.{Place}
use Rattle.arc_map.specs.Map.{Map}
use Rattle.json_scan.specs.Grammar.{Value, Null, False, True, Number, Text, EmptyList, FullList, EmptyObject, FullObject, Members, Document}
use Rattle.json_scan.specs.Grammar.{IsDocument, value_depth, members_depth, mark_then, value_then, members_then, value_width, document_text}
use Rattle.json_scan.specs.Tree.{Extent, extent, extent_of, Tree, Trees, Entries, value_tree, members_entries, document_tree, Lookup}
use Rattle.json_scan.specs.Tree.{NowhereIn, OnceIn, TwiceIn, lookup}
use Rattle.json_scan.proofs.Appends.{value-append}
use Rattle.topo_reader.specs.declared.fault.ReadFault.{ReadFault}
use Rattle.topo_reader.specs.Sequence.{and_then, list_of, at_found, required}
use Rattle.topo_reader.specs.Arcs.{arcs_of, arcs_value}
use Rattle.topo_reader.specs.Geometries.{Seen, nothing_seen, objects_of}
use Rattle.topo_reader.specs.Reads.{TopologyRead, header_of, map_of, topology_from, topology_of}
use Rattle.topo_reader.proofs.ArcLaws.{not-ok, same-ok, then-ok}
use Rattle.topo_writer.specs.Splice.{spliced}
use Rattle.topo_writer.specs.ArcsText.{arcs_text_of}
use Rattle.topo_writer.specs.Fits.{FitsIn}
use Rattle.topo_writer.specs.Reading.{ReadsAs}
use Rattle.topo_writer.specs.Laws.{SplicedReadsBack}
use Rattle.topo_writer.proofs.TreeShapes.{IsListTree, AreTrees}
use Rattle.topo_writer.proofs.TextForms.{Spelled}
use Rattle.topo_writer.proofs.TreeArcs.{IsWrittenArc, written-read}
use Rattle.topo_writer.proofs.ArcForms.{arcs-spelled}
use Rattle.topo_writer.proofs.ReadArcs.{CanBeWritten, read-can_be_written}
use Rattle.topo_writer.proofs.Alike.{lookup-but}
use Rattle.topo_writer.proofs.Follows.{same-ends}
use Rattle.topo_writer.proofs.WalkAlike.{SameSteps}
use Rattle.topo_writer.proofs.TopologyAlike.{header-same, objects_seen, seen-same}
use Rattle.topo_writer.proofs.Replaced.{BeginsAscii, IsArcsName, Replaced, replaced}
use Rattle.topo_writer.proofs.Fitting.{IsFitting, fitting}

-- ---- UTF-8

-- a text before an ASCII byte, and the text from there on
pub cut-before : (front back : List ℕ) → BeginsAscii back → IsUtf8 (front ++ back) → IsUtf8 front × IsUtf8 back
cut-before front [] begins utf8 = absurd begins
cut-before front (b ∷ bs) begins utf8 =
    let text = front ++ b ∷ bs in
    let longer : length text ≡ length front + length (b ∷ bs) = length-append front (b ∷ bs) in
    let within : length front < length text = omega (arith, longer) in
    let byte : get_or text (length front) 0 ≡ b = get_or_at front b bs 0 (length front) refl in
    let small : get_or text (length front) 0 < 128 = subst (λ (n : ℕ). n < 128) (sym byte) begins in
    let boundary : IsCharBoundary text (length front) = IsCharBoundary-before_ascii text (length front) within small in (
      subst IsUtf8 (take_at front (b ∷ bs) (length front) refl) (IsUtf8-take text (length front) utf8 boundary),
      subst IsUtf8
          (drop_at front (b ∷ bs) (length front) refl) (IsUtf8-drop text (length front) utf8 boundary),
    )

-- other ASCII bytes in the place of a part
utf8-replaced : (front part back ascii : List ℕ) → BeginsAscii (part ++ back) → BeginsAscii back → IsAscii ascii
    → IsUtf8 (front ++ (part ++ back)) → IsUtf8 (front ++ (ascii ++ back))
utf8-replaced front part back ascii begins_part begins_back is utf8 =
    let outer = cut-before front (part ++ back) begins_part utf8 in
    let inner = cut-before part back begins_back outer.1 in
    IsUtf8-append front (ascii ++ back) outer.0 (IsUtf8-append ascii back (IsUtf8-from_ascii ascii is) inner.1)

-- ---- the text

spliced-is : (text front part back other : List ℕ) (start end : ℕ) → text ≡ front ++ (part ++ back) → start ≡ length front
    → end ≡ length front + length part → spliced text start end other ≡ front ++ (other ++ back)
spliced-is text front part back other start end is from to =
    let before : take start text ≡ front = ap (take start) is ∙ take_at front (part ++ back) start (sym from) in
    let long : length (front ++ part) ≡ end = length-append front part ∙ sym to in
    let behind : drop end text ≡ back = ap (drop end) (is ∙ sym (append_assoc front part back)) ∙ drop_at (front ++ part) back end long in
    rw (before, behind) (append_assoc front other back)

-- the bytes of a document before the members of its object, and these
abbrev front_of : Bool → List ℕ → List ℕ → List ℕ
front_of mark before front = mark_then mark (before ++ (123 ∷ front))

pub mark-append : (mark : Bool) (a b : List ℕ) → mark_then mark (a ++ b) ≡ mark_then mark a ++ b
mark-append true a b = refl
mark-append false a b = refl

pub mark-length : (mark : Bool) (a : List ℕ) → length (mark_then mark a) ≡ (if mark then 3 else 0) + length a
mark-length true a = omega arith
mark-length false a = omega arith

object-front : (mark : Bool) (before front rest : List ℕ) → mark_then mark (before ++ (123 ∷ (front ++ rest))) ≡ front_of mark before front
    ++ rest
object-front mark before front rest = ap (mark_then mark) (sym (append_assoc before (123 ∷ front) rest))
    ∙ mark-append mark (before ++ (123 ∷ front)) rest

front-length : (mark : Bool) (before front : List ℕ) → length (front_of mark before front)
    ≡ (if mark then 3 else 0) + length before + 1 + length front
front-length mark before front = omega (arith, mark-length mark (before ++ (123 ∷ front)), length-append before (123 ∷ front))

-- a value stands from its place on, as wide as it is
pub extent-is : (v : Value) (place : ℕ) → extent_of (value_tree v place) ≡ extent place (value_width v)
extent-is Null place = refl
extent-is False place = refl
extent-is True place = refl
extent-is (Number n) place = refl
extent-is (Text ps) place = refl
extent-is (EmptyList gap) place =
    let wide : length gap + 2 ≡ value_width (EmptyList gap) = omega (arith, length-append gap (93 ∷ [])) in
    ap (extent place) wide
extent-is (FullList items) place = refl
extent-is (EmptyObject gap) place =
    let wide : length gap + 2 ≡ value_width (EmptyObject gap) = omega (arith, length-append gap (125 ∷ [])) in
    ap (extent place) wide
extent-is (FullObject members) place = refl

-- a value that is read as a List begins with its bracket
list-begins : (v : Value) (place : ℕ) (trees : Trees) (rest : List ℕ) → list_of (value_tree v place) ≡ Ok trees
    → BeginsAscii (value_then v rest)
list-begins Null place trees rest h = not-ok _ trees h
list-begins False place trees rest h = not-ok _ trees h
list-begins True place trees rest h = not-ok _ trees h
list-begins (Number n) place trees rest h = not-ok _ trees h
list-begins (Text ps) place trees rest h = not-ok _ trees h
list-begins (EmptyList gap) place trees rest h = omega arith
list-begins (FullList items) place trees rest h = omega arith
list-begins (EmptyObject gap) place trees rest h = not-ok _ trees h
list-begins (FullObject members) place trees rest h = not-ok _ trees h

-- ---- the topology

-- how a topology was read
record IsReadFrom (holder : Tree) (members : Entries) (t : TopologyRead) : Type 0 where
  coded : Bool
  value : Tree
  arcs : List (List Place)
  seen : Seen
  header : header_of holder members ≡ Ok coded
  found : lookup (codes "arcs") members ≡ OnceIn value
  read : arcs_value coded value ≡ Ok arcs
  objects : objects_seen arcs holder members ≡ Ok seen
  map_is : record { arcs = arcs; points = seen.points; polygons = seen.polygons; coded = coded } ≡ t.map
  at_is : extent_of value ≡ t.arcs_at

pub found-once : (holder t : Tree) (l : Lookup) → at_found holder l ≡ Ok t → l ≡ OnceIn t
found-once holder t NowhereIn h = not-ok _ t h
found-once holder t (OnceIn u) h = ap OnceIn (same-ok u t h)
found-once holder t (TwiceIn e) h = not-ok _ t h

abbrev map_seen : Bool → List (List Place) → Seen → Result Map ReadFault
map_seen coded arcs seen = Ok (record { arcs = arcs; points = seen.points; polygons = seen.polygons; coded = coded })

abbrev read_at : Tree → Map → Result TopologyRead ReadFault
read_at value map = Ok (record { map = map; arcs_at = extent_of value })

map-split : (coded : Bool) (arcs : List (List Place)) (holder : Tree) (members : Entries)
    → map_of coded arcs holder members ≡ and_then (objects_seen arcs holder members) (map_seen coded arcs)
map-split coded arcs holder members = at_case (required (codes "objects") holder members)
  where
    at_case : (r : Result Tree ReadFault) → and_then r (λ objects. and_then (objects_of arcs objects nothing_seen) (map_seen coded arcs))
        ≡ and_then (and_then r (λ objects. objects_of arcs objects nothing_seen)) (map_seen coded arcs)
    at_case (Ok t) = refl
    at_case (Err f) = refl

read-from : (holder : Tree) (members : Entries) (t : TopologyRead) → topology_from holder members ≡ Ok t → IsReadFrom holder members t
read-from holder members t h =
    let head = then-ok (header_of holder members) (λ coded. and_then (required (codes "arcs") holder members) (λ value.
    and_then (arcs_value coded value) (λ arcs. and_then (map_of coded arcs holder members) (read_at value)))) t h in
    let one = then-ok (required (codes "arcs") holder members) (λ value.
    and_then (arcs_value head.0 value) (λ arcs. and_then (map_of head.0 arcs holder members) (read_at value))) t head.2 in
    let arcs = then-ok (arcs_value head.0 one.0) (λ arcs. and_then (map_of head.0 arcs holder members) (read_at one.0)) t one.2 in
    let map = then-ok (map_of head.0 arcs.0 holder members) (read_at one.0) t arcs.2 in
    let seen = then-ok (objects_seen arcs.0 holder members) (map_seen head.0 arcs.0) map.0 (sym (map-split head.0 arcs.0 holder members)
    ∙ map.1) in
    let is = same-ok (record { map = map.0; arcs_at = extent_of one.0 }) t map.2 in
    record {
      coded = head.0;
      value = one.0;
      arcs = arcs.0;
      seen = seen.0;
      header = head.1;
      found = found-once holder one.0 (lookup (codes "arcs") members) one.1;
      read = arcs.1;
      objects = seen.1;
      map_is = same-ok _ map.0 seen.2 ∙ ap (λ (r : TopologyRead). r.map) is;
      at_is = ap (λ (r : TopologyRead). r.arcs_at) is;
    }

-- a topology with other arcs
reads-so : (holder : Tree) (members : Entries) (coded : Bool) (value : Tree) (arcs : List (List Place)) (seen : Seen)
    → header_of holder members ≡ Ok coded → lookup (codes "arcs") members ≡ OnceIn value → arcs_value coded value ≡ Ok arcs
    → objects_seen arcs holder members ≡ Ok seen
    → topology_from holder members ≡ read_at value (record { arcs = arcs; points = seen.points; polygons = seen.polygons; coded = coded })
reads-so holder members coded value arcs seen header found read objects =
    ap (λ (r : Result Bool ReadFault). and_then r (λ coded. and_then (required (codes "arcs") holder members) (λ value.
    and_then (arcs_value coded value) (λ arcs. and_then (map_of coded arcs holder members) (read_at value))))) header
    ∙ ap (λ (l : Lookup). and_then (at_found holder l) (λ value.
    and_then (arcs_value coded value) (λ arcs. and_then (map_of coded arcs holder members) (read_at value)))) found
    ∙ ap (λ (r : Result (List (List Place)) ReadFault). and_then r (λ arcs. and_then (map_of coded arcs holder members) (read_at value)))
    read
    ∙ ap (λ (r : Result Map ReadFault). and_then r (read_at value)) (map-split coded arcs holder members
    ∙ ap (λ (r : Result Seen ReadFault). and_then r (map_seen coded arcs)) objects)

-- none of these names is that of the arcs
not-arcs : (name word : List ℕ) → bytes_eq name (codes "arcs") ≡ false → IsArcsName word → bytes_eq word name ≡ true → ⊥
not-arcs name word other arcs same =
    let is : word ≡ name = (bytes_eq-Decides word name).0 same in
    let clash : true ≡ false = sym arcs ∙ ap (λ (w : List ℕ). bytes_eq w (codes "arcs")) is ∙ other in
    absurd cc

map-same : (new : Map) (points : List Place) (polygons : List (List ℕ)) (coded : Bool) → points ≡ new.points → polygons ≡ new.polygons
    → coded ≡ new.coded → record { arcs = new.arcs; points = points; polygons = polygons; coded = coded } ≡ new
map-same new points polygons coded p q r = rw (p, q, r) refl

-- ---- the whole

abbrev object_document : Bool → List ℕ → Members → List ℕ → Document
object_document mark before ms after = record { mark = mark; before = before; value = FullObject ms; after = after }

-- the place of the first member
abbrev inside : Bool → List ℕ → ℕ
inside mark before = (if mark then 3 else 0) + length before + 1

object-text : (mark : Bool) (before : List ℕ) (ms : Members) (after front middle back : List ℕ)
    → members_then ms (125 ∷ after) ≡ front ++ (middle ++ back)
    → document_text (object_document mark before ms after) ≡ front_of mark before front ++ (middle ++ back)
object-text mark before ms after front middle back e = ap (λ (l : List ℕ). mark_then mark (before ++ (123 ∷ l))) e
    ∙ object-front mark before front (middle ++ back)

-- the topology of an object with other arcs that fit
other-topology : (holder other : Tree) (members entries : Entries) (t : TopologyRead) (new : Map) (value : Tree)
    → (from : IsReadFrom holder members t) → FitsIn t.map new → IsFitting t.map new
    → header_of other entries ≡ Ok from.coded → lookup (codes "arcs") entries ≡ OnceIn value → arcs_value new.coded value ≡ Ok new.arcs
    → objects_seen new.arcs other entries ≡ Ok from.seen
    → topology_from other entries ≡ read_at value new
other-topology holder other members entries t new value from fits fit header found read objects =
    let points : from.seen.points ≡ new.points = ap (λ (m : Map). m.points) from.map_is ∙ sym fits.points in
    let polygons : from.seen.polygons ≡ new.polygons = ap (λ (m : Map). m.polygons) from.map_is ∙ sym fits.polygons in
    let coded : from.coded ≡ new.coded = ap (λ (m : Map). m.coded) from.map_is ∙ sym fits.coded in
    reads-so other entries from.coded value new.arcs from.seen header found (ap (λ (c : Bool). arcs_value c value) coded ∙ read) objects
    ∙ ap (read_at value) (map-same new from.seen.points from.seen.polygons from.coded points polygons coded)

replaced-topology : (holder other : Tree) (ms : Members) (place : ℕ) (t : TopologyRead) (new : Map)
    → (from : IsReadFrom holder (members_entries ms place) t) → FitsIn t.map new → IsFitting t.map new
    → (s : Spelled (IsListTree (AreTrees (IsWrittenArc new.coded) new.arcs)) 3 (arcs_text_of new)) (r : Replaced s.form ms place from.value)
    → topology_from other (members_entries r.members place) ≡ read_at (value_tree s.form (place + length r.front)) new
replaced-topology holder other ms place t new from fits fit s r =
    let members = members_entries ms place in
    let entries = members_entries r.members place in
    let value = value_tree s.form (place + length r.front) in
    let arcs : from.arcs ≡ t.map.arcs = ap (λ (m : Map). m.arcs) from.map_is in
    let steps : SameSteps from.arcs new.arcs = subst (λ (l : List (List Place)). SameSteps l new.arcs) (sym arcs) fit.steps in
    let type = lookup-but IsArcsName (codes "type") members entries (λ word. not-arcs (codes "type") word refl) r.others in
    let transform = lookup-but IsArcsName (codes "transform") members entries (λ word. not-arcs (codes "transform") word refl) r.others in
    let objects = lookup-but IsArcsName (codes "objects") members entries (λ word. not-arcs (codes "objects") word refl) r.others in
    other-topology holder other members entries t new value from fits fit
    (same-ends (header_of holder members) (header_of other entries) from.coded (header-same holder other members entries type transform)
    from.header)
    r.found
    (written-read new.coded new.arcs value fit.written.each fit.written.few fit.written.few_positions (s.tree (place + length r.front)))
    (same-ends (objects_seen from.arcs holder members) (objects_seen new.arcs other entries) from.seen
    (seen-same from.arcs new.arcs holder other members entries steps objects) from.objects)

-- the value that was read as arcs begins with a bracket
arcs-begin : (coded : Bool) (value : Tree) (arcs : List (List Place)) (v : Value) (place : ℕ) (rest : List ℕ)
    → arcs_value coded value ≡ Ok arcs → value ≡ value_tree v place → BeginsAscii (value_then v rest)
arcs-begin coded value arcs v place rest read is =
    let listed = then-ok (list_of value) (arcs_of coded 0 []) arcs read in
    list-begins v place listed.0 rest (sym (ap list_of is) ∙ listed.1)

object-back : (text : List ℕ) (mark : Bool) (before : List ℕ) (ms : Members) (after : List ℕ) (t : TopologyRead) (new : Map) → IsUtf8 text
    → IsDocument (object_document mark before ms after) → members_depth ms ≤ 63
    → text ≡ document_text (object_document mark before ms after)
    → topology_of (value_tree (FullObject ms) ((if mark then 3 else 0) + length before)) ≡ Ok t → FitsIn t.map new
    → ReadsAs (spliced text t.arcs_at.start t.arcs_at.end (arcs_text_of new)) new
object-back text mark before ms after t new utf8 is deep spelled h fits =
    let place = inside mark before in
    let holder = value_tree (FullObject ms) ((if mark then 3 else 0) + length before) in
    let from = read-from holder (members_entries ms place) t h in
    let can : CanBeWritten t.map.arcs = subst CanBeWritten (ap (λ (m : Map). m.arcs) from.map_is)
    (read-can_be_written from.coded from.value from.arcs from.read) in
    let fit = fitting t.map new can fits in
    let s = arcs-spelled new.coded new.arcs fit.written.each in
    let r = replaced s.form ms place from.value from.found in
    let at = place + length r.front in
    let front = front_of mark before r.front in
    let back = r.behind (125 ∷ after) in
    let part = value_then r.value [] in
    let whole : text ≡ front ++ (part ++ back) = spelled ∙ object-text mark before ms after r.front part back (r.spelled (125 ∷ after)
    ∙ ap (λ (l : List ℕ). r.front ++ l) (value-append r.value [] back)) in
    let other = object_document mark before r.members after in
    let respelled : document_text other ≡ front ++ (arcs_text_of new ++ back) =
    object-text mark before r.members after r.front (arcs_text_of new) back (r.respelled (125 ∷ after)
    ∙ ap (λ (l : List ℕ). r.front ++ l) (s.spelled back)) in
    let extent_at : t.arcs_at ≡ extent at (value_width r.value) = sym from.at_is ∙ ap extent_of r.tree ∙ extent-is r.value at in
    let start : t.arcs_at.start ≡ length front = ap (λ (e : Extent). e.start) extent_at ∙ sym (front-length mark before r.front) in
    let end : t.arcs_at.end ≡ length front + length part = ap (λ (e : Extent). e.end) extent_at
    ∙ ap (λ (n : ℕ). n + length part) (sym (front-length mark before r.front)) in
    let cut : spliced text t.arcs_at.start t.arcs_at.end (arcs_text_of new) ≡ front ++ (arcs_text_of new ++ back) =
    spliced-is text front part back (arcs_text_of new) t.arcs_at.start t.arcs_at.end whole start end in
    let begins : BeginsAscii (part ++ back) = subst BeginsAscii (value-append r.value [] back)
    (arcs-begin from.coded from.value from.arcs r.value at back from.read r.tree) in
    let begins_back : BeginsAscii back = r.ascii is.value (125 ∷ after) (omega arith) in
    let shallow : members_depth r.members ≤ 63 = r.deep 63 deep (let few = s.deep in omega (arith, few)) in
    subst (λ (l : List ℕ). ReadsAs l new) (sym cut) (record {
      utf8 = utf8-replaced front part back (arcs_text_of new) begins begins_back s.ascii (subst IsUtf8 whole utf8);
      document = other;
      json = record {
        document = record { before = is.before; value = r.valid is.value s.valid; after = is.after };
        depth = omega (arith, shallow);
        spelled = sym respelled;
        its_nodes = refl;
      };
      arcs_at = extent_of (value_tree s.form at);
      topology = replaced-topology holder (document_tree other) ms place t new from fits fit s r;
    })

value-back : (text : List ℕ) (mark : Bool) (before : List ℕ) (v : Value) (after : List ℕ) (t : TopologyRead) (new : Map) → IsUtf8 text
    → IsDocument (record { mark = mark; before = before; value = v; after = after }) → value_depth v ≤ 64
    → text ≡ document_text (record { mark = mark; before = before; value = v; after = after })
    → topology_of (value_tree v ((if mark then 3 else 0) + length before)) ≡ Ok t → FitsIn t.map new
    → ReadsAs (spliced text t.arcs_at.start t.arcs_at.end (arcs_text_of new)) new
value-back text mark before Null after t new utf8 is deep spelled h fits = not-ok _ t h
value-back text mark before False after t new utf8 is deep spelled h fits = not-ok _ t h
value-back text mark before True after t new utf8 is deep spelled h fits = not-ok _ t h
value-back text mark before (Number n) after t new utf8 is deep spelled h fits = not-ok _ t h
value-back text mark before (Text ps) after t new utf8 is deep spelled h fits = not-ok _ t h
value-back text mark before (EmptyList gap) after t new utf8 is deep spelled h fits = not-ok _ t h
value-back text mark before (FullList items) after t new utf8 is deep spelled h fits = not-ok _ t h
value-back text mark before (EmptyObject gap) after t new utf8 is deep spelled h fits = not-ok _ t h
value-back text mark before (FullObject ms) after t new utf8 is deep spelled h fits =
    let few : members_depth ms ≤ 63 = omega (arith, deep) in
    object-back text mark before ms after t new utf8 is few spelled h fits

pub reads-back : SplicedReadsBack
reads-back text d t new utf8 json h fits = value-back text d.mark d.before d.value d.after t new utf8 json.document json.depth json.spelled
    h fits
