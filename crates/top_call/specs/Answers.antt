-- The answer to the words of a command line over the texts that are held, in the order in which it is found: words, texts, map, work.
use Rattle.std.specs.Prelude.{◌≡◌, ◌≢◌, ℕ, ℤ, pos, Bool, true, false, List, [], ◌∷◌, ◌++◌, nat_lt, if◌then◌else◌, length, map, sum_by}
use Rattle.std.specs.Prelude.{Option, None, Some, codes, decimal}
use Rattle.std.specs.List.{flat_map, range_with_len}
use Rattle.grid_exact.specs.Weights.{Scales}
use Rattle.outside_io.specs.Texts.{Texts}
use Rattle.arc_map.specs.Map.{Map}
use Rattle.arc_map.specs.Arcs.{map_now}
use Rattle.arc_map.specs.Chains.{Chain}
use Rattle.arc_map.specs.Records.{Record}
use Rattle.arc_map.specs.Work.{work_of, AreChainsIn}
use Rattle.arc_map.specs.declared.refs.ChainRef.{ChainRef}
use Rattle.topo_reader.specs.Reads.{TopologyRead}
use Rattle.topo_writer.specs.Splice.{spliced}
use Rattle.topo_writer.specs.ArcsText.{arcs_text_of}
use Rattle.map_gen.specs.Make.{made}
use Rattle.dissolve.specs.Border.{IsBorder}
use Rattle.dissolve.specs.Texts.{rings_text}
use Rattle.pyramid.specs.Levels.{AreRanks}
use Rattle.pyramid.specs.Texts.{ranks_text}
use Rattle.face_parity.specs.Lines.{line_of}
use Rattle.cert_format.specs.Certificate.{Content, IsCertificate, certificate_text, content}
use Rattle.chain_replace.specs.Run.{Terms, IsOutcome}
use Rattle.cert_checker.specs.Difference.{IsFirstDifference}
use Rattle.cert_checker.specs.Judged.{demand, IsJudged}
use Rattle.cert_checker.specs.declared.verdicts.Reason.{Reason}
use Rattle.cert_checker.specs.declared.verdicts.Reason.TheVariants.{Form as NoForm, Text as TextDiffers}
use Rattle.cert_checker.specs.declared.verdicts.Verdict.{Verdict}
use Rattle.cert_checker.specs.declared.verdicts.Verdict.TheVariants as verdicts
use Rattle.top_call.specs.declared.forms.Options.{Options}
use Rattle.top_call.specs.declared.status.Limit.TheVariants.{Text}
use Rattle.top_call.specs.declared.status.Role.{Role}
use Rattle.top_call.specs.declared.status.Status.{Status}
use Rattle.top_call.specs.declared.status.Status.TheVariants.{Done, No, Usage, TooLarge, ReadFault, NoPolygon}
use Rattle.top_call.specs.Words.{Form, Simplify, Layers, Check, Faces, Make, Demo, Dissolve, Build, Pyramid, form_of}
use Rattle.top_call.specs.Reading.{Read, named, AreRead, AreShort, IsFirstPast, IsFirstUnheld}
use Rattle.top_call.specs.Maps.{IsLoaded, IsRefusal, scales_of}
use Rattle.top_call.specs.Built.{IsGeoRefusal, IsBuiltOf}
use Rattle.top_call.specs.Verdicts.{verdict_line}

-- a status, and the bytes that go out with it
pub record Answer : Type 0 where
  pub status : Status
  pub bytes : List ℕ

abbrev pub refused : Status → Answer
refused status = record { status = status; bytes = [] }

abbrev pub done : List ℕ → Answer
done bytes = record { status = Done; bytes = bytes }

-- ---- a run over the map of a text

-- no arcs held, no weights
abbrev pub plain : Options
plain = record { hold = false; weights = None }

abbrev pub terms_of : Options → ℤ → List ℕ → Terms
terms_of options bound held = record { held = held; bound = bound; weights = scales_of options.weights }

-- over the map of the text, with its held arcs, a run comes to this map with these records
pub record IsRun (options : Options) (bound : ℤ) (text : List ℕ) (t : TopologyRead) (held : List ℕ) (after : Map)
    (records : List Record) : Type 0 where
  pub loaded : IsLoaded options text t held
  pub outcome : IsOutcome t.map (terms_of options bound held) after records

-- the text with the arcs of a map in place of the value of `arcs`
abbrev pub text_with : List ℕ → TopologyRead → Map → List ℕ
text_with text t m = spliced text t.arcs_at.start t.arcs_at.end (arcs_text_of m)

-- ---- what the forms write

-- the text with the arcs of the outcome
pub record IsSimplified (options : Options) (bound : ℤ) (text bytes : List ℕ) : Type 0 where
  pub topology : TopologyRead
  pub held : List ℕ
  pub after : Map
  pub records : List Record
  pub run : IsRun options bound text topology held after records
  pub written : bytes ≡ text_with text topology after

-- the version of the certificate: 3 with weights, else 2 with held arcs, else 1
abbrev pub version_by : Bool → Option Scales → ℕ
version_by hold (Some w) = 3
version_by true None = 2
version_by false None = 1

abbrev pub version_of : Options → ℕ
version_of options = version_by options.hold options.weights

-- the certificate of the run
pub record IsCertified (options : Options) (bound : ℤ) (text bytes : List ℕ) : Type 0 where
  pub topology : TopologyRead
  pub held : List ℕ
  pub after : Map
  pub records : List Record
  pub run : IsRun options bound text topology held after records
  pub written : bytes ≡ certificate_text (content (version_of options) bound (scales_of options.weights) held records)

-- the lines of the feature points, in order
abbrev pub faces_text : Map → List ℕ
faces_text m = flat_map (line_of m) (range_with_len 0 (length m.points))

pub record IsFaced (text bytes : List ℕ) : Type 0 where
  pub topology : TopologyRead
  pub held : List ℕ
  pub loaded : IsLoaded plain text topology held
  pub written : bytes ≡ faces_text topology.map

-- how many positions the arcs have in sum
abbrev pub position_count : Map → ℕ
position_count m = sum_by length m.arcs

-- five lines of counts: of arcs, points, polygons, chains, and of positions before and after
abbrev pub count_lines : ℕ → ℕ → ℕ → ℕ → ℕ → ℕ → List ℕ
count_lines arcs points polygons chains before after =
    codes "arcs " ++ decimal arcs ++ codes "\npoints " ++ decimal points ++ codes "\npolygons " ++ decimal polygons
    ++ codes "\nchains " ++ decimal chains ++ codes "\npositions " ++ decimal before ++ codes " to " ++ decimal after ++ codes "\n"

-- the counts of a map, of chains, and of positions before and in the map
abbrev pub demo_text : Map → ℕ → ℕ → List ℕ
demo_text m chains before = count_lines (length m.arcs) (length m.points) (length m.polygons) chains before (position_count m)

-- the counts of what a run makes of a coverage: its arcs, points and polygons, the chains of the coverage, and the positions before and
-- after
pub record IsDemoed (rows cols seed : ℕ) (bound : ℤ) (bytes : List ℕ) : Type 0 where
  pub topology : TopologyRead
  pub held : List ℕ
  pub after : Map
  pub records : List Record
  pub run : IsRun plain bound (made rows cols seed) topology held after records
  pub written : bytes ≡ demo_text after (length run.outcome.refs) (position_count topology.map)

-- the first of these numbers that no polygon has where there are so many, none where each has one
abbrev pub first_missing : ℕ → List ℕ → Option ℕ
first_missing count [] = None
first_missing count (k ∷ ks) = if nat_lt k count then first_missing count ks else Some k

-- the text of the border of these polygons
pub record IsBorderText (m : Map) (polygons bytes : List ℕ) : Type 0 where
  pub rings : List (List ℤ)
  pub border : IsBorder m polygons rings
  pub written : bytes ≡ rings_text rings

-- the map has each of these polygons, and this is the text of their border
pub record IsDissolved (polygons text bytes : List ℕ) : Type 0 where
  pub topology : TopologyRead
  pub held : List ℕ
  pub loaded : IsLoaded plain text topology held
  pub known : first_missing (length topology.map.polygons) polygons ≡ None
  pub is_text : IsBorderText topology.map polygons bytes

-- this is the first of these polygons that the map does not have
pub record IsMissing (polygons text : List ℕ) (polygon : ℕ) : Type 0 where
  pub topology : TopologyRead
  pub held : List ℕ
  pub loaded : IsLoaded plain text topology held
  pub first : first_missing (length topology.map.polygons) polygons ≡ Some polygon

-- the map of the text is refused, or it does not have each of these polygons
pub data IsBorderRefusal (polygons text : List ℕ) (status : Status) : Type 0 where
  RefusedMap : IsRefusal plain text status → IsBorderRefusal polygons text status
  Missed : (polygon : ℕ) → IsMissing polygons text polygon → status ≡ NoPolygon polygon → IsBorderRefusal polygons text status

-- the text of the ranks of the positions of a map by the levels of these bounds
pub record IsRanksText (m : Map) (bounds : List ℤ) (bytes : List ℕ) : Type 0 where
  pub ranks : List (List ℕ)
  pub are_ranks : AreRanks m bounds ranks
  pub written : bytes ≡ ranks_text bounds ranks

-- the map of the text is arranged, and this is the text of its ranks by the levels of these bounds
pub record IsRanked (bounds text bytes : List ℕ) : Type 0 where
  pub topology : TopologyRead
  pub held : List ℕ
  pub loaded : IsLoaded plain text topology held
  pub is_text : IsRanksText topology.map (map pos bounds) bytes

-- ---- what `check` finds

-- the bytes are the text of this certificate
pub record IsTextOf (bytes : List ℕ) (c : Content) : Type 0 where
  pub certificate : IsCertificate c
  pub text : certificate_text c ≡ bytes

-- a certificate for the map of a text is judged, with this verdict, and the chains are these at the end
pub record IsJudgedFor (options : Options) (bound : ℤ) (text cert : List ℕ) (t : TopologyRead) (verdict : Verdict)
    (after : List Chain) : Type 0 where
  pub held : List ℕ
  pub loaded : IsLoaded options text t held
  pub content : Content
  pub is_content : IsTextOf cert content
  pub refs : List ChainRef
  pub chains : AreChainsIn t.map refs
  pub judged : IsJudged (demand (version_of options) bound (scales_of options.weights)) held (work_of t.map refs) content verdict after

-- the expected text and the one that was put out are equal, or they first differ here
abbrev pub IsComparison : List ℕ → List ℕ → Verdict → Type 0
IsComparison expected out verdicts.Yes = expected ≡ out
IsComparison expected out (verdicts.No (TextDiffers at)) = IsFirstDifference expected out at
IsComparison expected out verdict = ⊥

-- The verdict on what was written for FILE: CERT is no certificate; or it is refused for a reason; or else OUT is to be the text of FILE
-- with the arcs of the judged map.
pub data IsChecked (options : Options) (bound : ℤ) (read : Read) (verdict : Verdict) : Type 0 where
  NotCertificate : (t : TopologyRead) (held : List ℕ) → IsLoaded options read.file t held
      → ((c : Content) → IsCertificate c → certificate_text c ≢ read.cert) → verdict ≡ verdicts.No NoForm
      → IsChecked options bound read verdict
  IsRefuted : (t : TopologyRead) (reason : Reason) (after : List Chain)
      → IsJudgedFor options bound read.file read.cert t (verdicts.No reason) after → verdict ≡ verdicts.No reason
      → IsChecked options bound read verdict
  IsCompared : (t : TopologyRead) (after : List Chain) → IsJudgedFor options bound read.file read.cert t verdicts.Yes after
      → IsComparison (text_with read.file t (map_now t.map after)) read.out verdict → IsChecked options bound read verdict

abbrev pub verdict_status : Verdict → Status
verdict_status verdicts.Yes = Done
verdict_status (verdicts.No reason) = No reason

-- a verdict with its line
abbrev pub told : Verdict → Answer
told verdict = record { status = verdict_status verdict; bytes = verdict_line verdict }

-- ---- the work of a form

-- the text is refused with a status, or these bytes are written
pub data IsTextAnswer (IsRefusedWith : Status → Type 0) (IsWritten : List ℕ → Type 0) (a : Answer) : Type 0 where
  Refused : (s : Status) → IsRefusedWith s → a ≡ refused s → IsTextAnswer IsRefusedWith IsWritten a
  Written : (bytes : List ℕ) → IsWritten bytes → a ≡ done bytes → IsTextAnswer IsRefusedWith IsWritten a

-- the map of the text is refused, or these bytes are written
abbrev pub IsMapAnswer : Options → List ℕ → (List ℕ → Type 0) → Answer → Type 0
IsMapAnswer options text IsWritten a = IsTextAnswer (IsRefusal options text) IsWritten a

-- these bytes are made and written
abbrev pub IsMadeAnswer : (List ℕ → Type 0) → Answer → Type 0
IsMadeAnswer IsWritten a = (bytes : List ℕ) × IsWritten bytes × (a ≡ done bytes)

-- the text of FILE is refused, or the verdict is told
pub data IsCheckAnswer (options : Options) (bound : ℤ) (read : Read) (a : Answer) : Type 0 where
  RefusedFile : (s : Status) → IsRefusal options read.file s → a ≡ refused s → IsCheckAnswer options bound read a
  Told : (verdict : Verdict) → IsChecked options bound read verdict → a ≡ told verdict → IsCheckAnswer options bound read a

-- the answer of a form over the texts that were read
abbrev pub IsWorkAnswer : Form → Read → Answer → Type 0
IsWorkAnswer (Simplify options bound file) read a = IsMapAnswer options read.file (IsSimplified options bound read.file) a
IsWorkAnswer (Layers options bound file) read a = IsMapAnswer options read.file (IsCertified options bound read.file) a
IsWorkAnswer (Check options bound file out cert) read a = IsCheckAnswer options bound read a
IsWorkAnswer (Faces file) read a = IsMapAnswer plain read.file (IsFaced read.file) a
IsWorkAnswer (Make rows cols seed) read a = a ≡ done (made rows cols seed)
IsWorkAnswer (Demo rows cols seed bound) read a = IsMadeAnswer (IsDemoed rows cols seed bound) a
IsWorkAnswer (Dissolve polygons file) read a = IsTextAnswer (IsBorderRefusal polygons read.file) (IsDissolved polygons read.file) a
IsWorkAnswer (Build file) read a = IsTextAnswer (IsGeoRefusal read.file) (IsBuiltOf read.file) a
IsWorkAnswer (Pyramid bounds file) read a = IsMapAnswer plain read.file (IsRanked bounds read.file) a

-- ---- the whole

-- the answer of a form over the texts that are held
pub data IsFormAnswer (f : Form) (texts : Texts) (a : Answer) : Type 0 where
  NotHeld : IsFirstUnheld texts (named f) → a ≡ refused ReadFault → IsFormAnswer f texts a
  TooLong : (role : Role) → IsFirstPast texts (named f) role → a ≡ refused (TooLarge (Text role)) → IsFormAnswer f texts a
  Worked : (read : Read) → AreRead texts (named f) read → AreShort read → IsWorkAnswer f read a → IsFormAnswer f texts a

abbrev pub IsAnswerBy : Option Form → Texts → Answer → Type 0
IsAnswerBy None texts a = a ≡ refused Usage
IsAnswerBy (Some f) texts a = IsFormAnswer f texts a

-- the answer to these words over these texts
abbrev pub IsAnswer : List (List ℕ) → Texts → Answer → Type 0
IsAnswer words texts a = IsAnswerBy (form_of words) texts a
