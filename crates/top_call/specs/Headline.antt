-- What is promised of a run: the text that `simplify` writes is faithful to the one that it was given, a text that loads is worked on, what
-- was written for it is judged and found right, what `dissolve` writes is a border, what `pyramid` writes are the ranks of levels, what
-- `build` writes is a topology, and `make` and `demo` refuse nothing.
use Rattle.std.specs.Prelude.{◌≡◌, ◌≢◌, ◌↔◌, ◌⊎◌, ◌-◌, ◌<◌, ◌≤◌, ℕ, ℤ, Bool, false, List, ◌++◌, All, AllPairs, Contains, length, take}
use Rattle.std.specs.Prelude.{get_or, Some}
use Rattle.grid_exact.specs.Geometry.{Place}
use Rattle.grid_exact.specs.Paths.{Certifies}
use Rattle.arc_map.specs.Arcs.{is_inside_of}
use Rattle.arc_map.specs.Map.{Map}
use Rattle.arc_map.specs.Records.{Record}
use Rattle.arc_map.specs.Work.{Work, work_of}
use Rattle.outside_io.specs.Texts.{Texts, text_of}
use Rattle.json_scan.specs.Tree.{Tree}
use Rattle.geo_reader.specs.Geo.{Geo}
use Rattle.topo_reader.specs.Reads.{TopologyRead}
use Rattle.chain_replace.specs.Laws.{KeepsFaces}
use Rattle.chain_replace.specs.Run.{Terms, IsAllowedIn, last_of, IsRecordOf, AreReplaced, IsOutcome}
use Rattle.chain_replace.specs.Thinned.{ThinsArcs}
use Rattle.dissolve.specs.Odd.{named_arcs, odd_arcs}
use Rattle.dissolve.specs.Border.{IsBorder}
use Rattle.dissolve.specs.Closed.{IsClosed, arcs_used}
use Rattle.dissolve.specs.Texts.{rings_text}
use Rattle.cert_checker.specs.declared.verdicts.Reason.{Reason}
use Rattle.cert_checker.specs.declared.verdicts.Verdict.TheVariants.{Yes}
use Rattle.top_call.specs.declared.forms.Options.{Options}
use Rattle.top_call.specs.declared.status.Role.TheVariants.{File, Out, Cert}
use Rattle.top_call.specs.declared.status.Status.{Status}
use Rattle.top_call.specs.declared.status.Status.TheVariants.{Done, No, WriteFault, NoMemory}
use Rattle.top_call.specs.Words.{Form, Simplify, Layers, Check, Faces, Make, Demo, Dissolve, Build, Pyramid, form_of}
use Rattle.top_call.specs.Reading.{limit_of, IsWithin}
use Rattle.top_call.specs.Maps.{IsLoaded}
use Rattle.top_call.specs.Built.{HasGeo, IsBuiltOf}
use Rattle.top_call.specs.Requests.{IsWithinLimits}
use Rattle.top_call.specs.Verdicts.{verdict_line}
use Rattle.top_call.specs.Answers.{done, plain, terms_of, text_with, IsRanked, IsFormAnswer}
use Rattle.top_call.specs.Endings.{Wrote}

-- ---- what is written of a text that is simplified

-- The record number n is that of a chain in the map as the chains before it left it: it has the best path over the pairs that are allowed
-- there, and its layers certify that no path has fewer vertices.
pub record IsFewest (t : Terms) (start : Work) (records : List Record) (n : ℕ) (r : Record) : Type 0 where
  pub chain : ℕ
  pub found : Work
  pub before : AreReplaced t start 0 chain (take n records) found
  pub best : IsRecordOf t found chain r
  pub certified : Certifies (IsAllowedIn t found chain) (last_of found chain) (length r.kept - 1) r.layers

-- The bytes are faithful to the text.
pub record IsFaithful (options : Options) (bound : ℤ) (text bytes : List ℕ) : Type 0 where
  -- the text is that of this topology, with these held arcs
  pub topology : TopologyRead
  pub held : List ℕ
  pub loaded : IsLoaded options text topology held
  -- each byte stands but those of the value of `arcs`, where the arcs of a map are written
  pub after : Map
  pub written : bytes ≡ text_with text topology after
  -- the map is what comes of replacing each chain in turn, with these records
  pub records : List Record
  pub run : IsOutcome topology.map (terms_of options bound held) after records
  -- each of its arcs has some of the positions of the arc in the text, both ends of each chain among them; each position that is skipped
  -- is within the bound of the edge that skips it; and a held arc has all of them
  pub arcs : ThinsArcs (terms_of options bound held) topology.map run.refs after
  -- it is arranged beside the held arcs, from each feature point each arc is crossed with the same parity, and each feature point is in
  -- the same polygons
  pub faces : KeepsFaces held topology.map after
  -- what is left of each chain is a path of pairs that were allowed when its turn came, and no such path has fewer vertices
  pub fewest : (n : ℕ) (d : Record) → n < length records → IsFewest (terms_of options bound held) (work_of topology.map run.refs) records n
      (get_or records n d)

-- What `simplify` writes of a text that is held, where it is done, is faithful to the text.
abbrev pub Headline : List (List ℕ) → Texts → List ℕ → List ℕ → Status → Type 0
Headline words texts before now result =
    (options : Options) (bound : ℤ) (file text bytes : List ℕ) → form_of words ≡ Some (Simplify options bound file)
    → text_of texts file ≡ Some text → result ≡ Done → now ≡ before ++ bytes → IsFaithful options bound text bytes

-- ---- which texts are worked on

-- FILE is held, is no longer than it may be, and loads
pub record IsReady (options : Options) (texts : Texts) (file : List ℕ) : Type 0 where
  pub text : List ℕ
  pub is_held : text_of texts file ≡ Some text
  pub short : length text ≤ limit_of File
  pub topology : TopologyRead
  pub held : List ℕ
  pub loaded : IsLoaded options text topology held

-- FILE is ready, and its map has each of these polygons
pub record HasPolygons (polygons : List ℕ) (texts : Texts) (file : List ℕ) : Type 0 where
  pub ready : IsReady plain texts file
  pub known : All (λ k. k < length ready.topology.map.polygons) polygons

-- FILE is held, is no longer than it may be, and reads as GeoJSON
pub record IsGeoReady (texts : Texts) (file : List ℕ) : Type 0 where
  pub text : List ℕ
  pub is_held : text_of texts file ≡ Some text
  pub short : length text ≤ limit_of File
  pub tree : Tree
  pub geo : Geo
  pub has : HasGeo text tree geo

-- the form works on FILE alone, and FILE is ready
abbrev pub CanWork : Form → Texts → Type 0
CanWork (Simplify options bound file) texts = IsReady options texts file
CanWork (Layers options bound file) texts = IsReady options texts file
CanWork (Faces file) texts = IsReady plain texts file
CanWork (Dissolve polygons file) texts = HasPolygons polygons texts file
CanWork (Build file) texts = IsGeoReady texts file
CanWork (Pyramid bounds file) texts = IsReady plain texts file
CanWork f texts = ⊥

-- where FILE is ready, its work is done, or memory was wanting
abbrev pub Completes : List (List ℕ) → Texts → Status → Type 0
Completes words texts result = (f : Form) → form_of words ≡ Some f → CanWork f texts → (result ≡ Done) ⊎ (result ≡ NoMemory)

-- ---- which texts are judged

-- FILE is ready, and OUT and CERT are held and are no longer than they may be
pub record CanJudge (options : Options) (texts : Texts) (file out cert : List ℕ) : Type 0 where
  pub ready : IsReady options texts file
  pub out_within : IsWithin Out (text_of texts out)
  pub cert_within : IsWithin Cert (text_of texts cert)

-- the verdict is yes, or it is no for a reason, or memory was wanting
abbrev pub IsJudgingStatus : Status → Type 0
IsJudgingStatus s = (s ≡ Done) ⊎ (((reason : Reason) × (s ≡ No reason)) ⊎ (s ≡ NoMemory))

-- where FILE is ready, and OUT and CERT are held and short enough, `check` ends in no other way
abbrev pub Judges : List (List ℕ) → Texts → Status → Type 0
Judges words texts result =
    (options : Options) (bound : ℤ) (file out cert : List ℕ) → form_of words ≡ Some (Check options bound file out cert)
    → CanJudge options texts file out cert → IsJudgingStatus result

-- ---- what was written for FILE

-- the run is done and these bytes were written, or memory was wanting
abbrev pub Finishes : Bool → List ℕ → List ℕ → List ℕ → Status → Type 0
Finishes tells before now bytes result = ((result ≡ Done) × Wrote tells before now bytes) ⊎ (result ≡ NoMemory)

-- OUT and CERT are held, and are what `simplify` and `layers` answer to FILE
pub record AreWrittenFor (options : Options) (bound : ℤ) (texts : Texts) (file out cert : List ℕ) : Type 0 where
  pub written : List ℕ
  pub out_held : text_of texts out ≡ Some written
  pub simplified : IsFormAnswer (Simplify options bound file) texts (done written)
  pub certificate : List ℕ
  pub cert_held : text_of texts cert ≡ Some certificate
  pub certified : IsFormAnswer (Layers options bound file) texts (done certificate)

-- where they are, `check` with the same options and bound says yes
abbrev pub ReachesYes : List (List ℕ) → Texts → Bool → List ℕ → List ℕ → Status → Type 0
ReachesYes words texts tells before now result =
    (options : Options) (bound : ℤ) (file out cert : List ℕ) → form_of words ≡ Some (Check options bound file out cert)
    → AreWrittenFor options bound texts file out cert → Finishes tells before now (verdict_line Yes) result

-- OUT is held, is what `simplify` answers to FILE, and is no longer than FILE may be
pub record IsWrittenFor (options : Options) (bound : ℤ) (texts : Texts) (file out : List ℕ) : Type 0 where
  pub limits : IsWithinLimits (Simplify options bound file)
  pub written : List ℕ
  pub is_held : text_of texts out ≡ Some written
  pub short : length written ≤ limit_of File
  pub simplified : IsFormAnswer (Simplify options bound file) texts (done written)

-- `faces` ends on OUT as it is answered to FILE
pub record FacesAlike (options : Options) (texts : Texts) (file : List ℕ) (tells : Bool) (before now : List ℕ)
    (result : Status) : Type 0 where
  -- where no arcs are to be held, FILE is answered with some lines
  pub has_lines : options.hold ≡ false → (lines : List ℕ) × IsFormAnswer (Faces file) texts (done lines)
  -- lines with which FILE is answered are written of OUT
  pub same_lines : (lines : List ℕ) → IsFormAnswer (Faces file) texts (done lines) → Finishes tells before now lines result

-- where OUT is so, `faces` writes of it the lines of FILE
abbrev pub KeepsLines : List (List ℕ) → Texts → Bool → List ℕ → List ℕ → Status → Type 0
KeepsLines words texts tells before now result =
    (options : Options) (bound : ℤ) (file out : List ℕ) → form_of words ≡ Some (Faces out) → IsWrittenFor options bound texts file out
    → FacesAlike options texts file tells before now result

-- ---- what is written of polygons that are dissolved

-- The bytes are the border of these polygons of the map of a text.
pub record IsBorderOf (polygons text bytes : List ℕ) : Type 0 where
  -- the text is that of this topology, which is arranged and has each of the polygons
  pub topology : TopologyRead
  pub held : List ℕ
  pub loaded : IsLoaded plain text topology held
  pub known : All (λ k. k < length topology.map.polygons) polygons
  -- the rings of the border are written
  pub rings : List (List ℤ)
  pub border : IsBorder topology.map polygons rings
  pub written : bytes ≡ rings_text rings
  -- each arc begins where the one before ends, and each ring ends where it begins
  pub closed : All (IsClosed topology.map) rings
  -- the arcs used are those with an edge that the polygons name an odd number of times in sum, each once
  pub used : (k : ℕ) → Contains (arcs_used rings) k ↔ Contains (odd_arcs topology.map polygons) k
  pub once : AllPairs (λ j k. j ≢ k) (arcs_used rings)
  -- from each place the rings are crossed as often, modulo 2, as these polygons in sum
  pub crossed : (p : Place) → is_inside_of p topology.map.arcs (arcs_used rings) ≡ is_inside_of p topology.map.arcs
      (named_arcs topology.map polygons)

-- What `dissolve` writes of a text that is held, where it is done, is the border of the polygons.
abbrev pub Borders : List (List ℕ) → Texts → List ℕ → List ℕ → Status → Type 0
Borders words texts before now result =
    (polygons file text bytes : List ℕ) → form_of words ≡ Some (Dissolve polygons file) → text_of texts file ≡ Some text → result ≡ Done
    → now ≡ before ++ bytes → IsBorderOf polygons text bytes

-- ---- what is written of levels

-- What `pyramid` writes of a text that is held, where it is done, are the ranks of its map by the levels of the bounds.
abbrev pub Levels : List (List ℕ) → Texts → List ℕ → List ℕ → Status → Type 0
Levels words texts before now result =
    (bounds file text bytes : List ℕ) → form_of words ≡ Some (Pyramid bounds file) → text_of texts file ≡ Some text → result ≡ Done
    → now ≡ before ++ bytes → IsRanked bounds text bytes

-- ---- what is built

-- What `build` writes of a text that is held, where it is done, is the topology that is built of its GeoJSON.
abbrev pub Builds : List (List ℕ) → Texts → List ℕ → List ℕ → Status → Type 0
Builds words texts before now result =
    (file text bytes : List ℕ) → form_of words ≡ Some (Build file) → text_of texts file ≡ Some text → result ≡ Done
    → now ≡ before ++ bytes → IsBuiltOf text bytes

-- ---- the forms that make a coverage

abbrev pub IsMaking : Form → Type 0
IsMaking (Make rows cols seed) = Unit {0}
IsMaking (Demo rows cols seed bound) = Unit {0}
IsMaking f = ⊥

-- the bytes are written, or a write failed, or memory was wanting
abbrev pub IsMakingStatus : Status → Type 0
IsMakingStatus s = (s ≡ Done) ⊎ ((s ≡ WriteFault) ⊎ (s ≡ NoMemory))

-- `make` and `demo` end in no other way
abbrev pub Makes : List (List ℕ) → Status → Type 0
Makes words result = (f : Form) → form_of words ≡ Some f → IsMaking f → IsMakingStatus result
