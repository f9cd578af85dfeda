-- The laws of the command: what a run writes is judged Yes, reads back, and has the lines of `faces` of the text that was given.
use Rattle.std.specs.Prelude.{◌≡◌, ◌↔◌, ◌≤◌, ℕ, ℤ, false, List, length}
use Rattle.arc_map.specs.Map.{Map}
use Rattle.arc_map.specs.Arcs.{map_now}
use Rattle.arc_map.specs.Arranged.{IsMapArranged}
use Rattle.arc_map.specs.Chains.{Chain}
use Rattle.arc_map.specs.Records.{Record}
use Rattle.arc_map.specs.Work.{work_of, AreChainsIn}
use Rattle.arc_map.specs.declared.refs.ChainRef.{ChainRef}
use Rattle.outside_io.specs.Texts.{Texts}
use Rattle.topo_reader.specs.Reads.{TopologyRead}
use Rattle.topo_writer.specs.Reading.{ReadsAs}
use Rattle.cert_format.specs.Certificate.{Content, content}
use Rattle.chain_replace.specs.Run.{Terms, IsOutcome}
use Rattle.cert_checker.specs.Judged.{Demand, demand, IsJudged}
use Rattle.cert_checker.specs.declared.verdicts.Verdict.{Verdict}
use Rattle.cert_checker.specs.declared.verdicts.Verdict.TheVariants.{Yes}
use Rattle.top_call.specs.declared.forms.Options.{Options}
use Rattle.top_call.specs.Maps.{HasTopology}
use Rattle.top_call.specs.Answers.{Answer, done, told, IsSimplified, IsCertified, IsChecked, IsWorkAnswer, IsAnswer, faces_text}
use Rattle.top_call.specs.Reading.{Read, limit_of}
use Rattle.top_call.specs.declared.status.Role.TheVariants.{File, Out, Cert}
use Rattle.top_call.specs.Requests.{IsBound, AreWeights, IsWithinLimits}
use Rattle.top_call.specs.Words.{Simplify, Layers, Check, Faces}

-- the certificate is judged Yes for the map with these chains, and the judged map is this one
pub record IsJudgedYes (d : Demand) (held : List ℕ) (m : Map) (refs : List ChainRef) (c : Content) (after : Map) : Type 0 where
  pub chains : List Chain
  pub judged : IsJudged d held (work_of m refs) c Yes chains
  pub made : after ≡ map_now m chains

-- The records of a run, as a certificate of the version that is demanded, of the run's bound, weights and held arcs, are judged Yes for the
-- map of the run, and the judged map is the outcome.
abbrev pub RecordsAreJudgedYes : Type 0
RecordsAreJudgedYes =
    (m : Map) (t : Terms) (after : Map) (records : List Record) (version : ℕ) (refs : List ChainRef) → AreChainsIn m refs
    → IsOutcome m t after records → IsJudgedYes (demand version t.bound t.weights) t.held m refs
    (content version t.bound t.weights t.held records) after

-- What a run writes of FILE as OUT and as CERT is found right, with the same options and the same bound: the verdict on it is Yes, and
-- no other.
abbrev pub SimplifiedChecksYes : Type 0
SimplifiedChecksYes =
    (options : Options) (bound : ℤ) (read : Read) (verdict : Verdict) → AreWeights options.weights → IsBound bound
    → IsSimplified options bound read.file read.out → IsCertified options bound read.file read.cert → IsChecked options bound read verdict
    ↔ (verdict ≡ Yes)

-- Where OUT is what `simplify` answers to FILE, and CERT what `layers` does, `check` has one answer: yes.
abbrev pub CheckAnswersYes : Type 0
CheckAnswersYes =
    (options : Options) (bound : ℤ) (file out cert : List ℕ) (read : Read) → IsWithinLimits (Check options bound file out cert)
    → IsWorkAnswer (Simplify options bound file) read (done read.out) → IsWorkAnswer (Layers options bound file) read (done read.cert)
    → (a : Answer) → IsWorkAnswer (Check options bound file out cert) read a ↔ (a ≡ told Yes)

-- the text reads as the map `after`, which has the feature points, the polygons and the coding of the map m
pub record ReadsBackAs (m after : Map) (text : List ℕ) : Type 0 where
  pub reads : ReadsAs text after
  pub points : after.points ≡ m.points
  pub polygons : after.polygons ≡ m.polygons
  pub coded : after.coded ≡ m.coded

-- What a run writes of a text reads back as the outcome of the run, which has the feature points, the polygons and the coding of the
-- map of that text.
abbrev pub SimplifiedReadsBack : Type 0
SimplifiedReadsBack =
    (options : Options) (bound : ℤ) (text bytes : List ℕ) → (is : IsSimplified options bound text bytes)
    → ReadsBackAs is.topology.map is.after bytes

-- ---- the lines of `faces`

-- A map and the outcome of a run over it have the same lines, where the map is arranged beside the held arcs of the run.
abbrev pub OutcomeKeepsLines : Type 0
OutcomeKeepsLines =
    (m : Map) (t : Terms) (after : Map) (records : List Record) → IsMapArranged t.held m → IsOutcome m t after records
    → faces_text after ≡ faces_text m

-- The map of a text and the map of what a run writes of it have the same lines, with any options and any bound: also where arcs are held,
-- so that `faces` itself refuses the text.
abbrev pub SimplifiedKeepsLines : Type 0
SimplifiedKeepsLines =
    (options : Options) (bound : ℤ) (text bytes : List ℕ) (before after : TopologyRead) → IsSimplified options bound text bytes
    → HasTopology text before → HasTopology bytes after → faces_text after.map ≡ faces_text before.map

-- this is an answer, and there is no other
abbrev pub IsOnlyAnswer : (Answer → Type 0) → Answer → Type 0
IsOnlyAnswer IsIt answer = (a : Answer) → IsIt a ↔ (a ≡ answer)

-- what `faces` answers to FILE, and to OUT, which was written of FILE with these options
pub record AnswersAlike (options : Options) (file out : List ℕ) (read written : Read) : Type 0 where
  -- where no arcs are to be held, it answers FILE with some lines
  pub has_lines : options.hold ≡ false → (lines : List ℕ) × IsWorkAnswer (Faces file) read (done lines)
  -- lines that it answers to FILE are its one answer to FILE, and its one answer to OUT
  pub same_lines : (lines : List ℕ) → IsWorkAnswer (Faces file) read (done lines)
      → IsOnlyAnswer (IsWorkAnswer (Faces file) read) (done lines) × IsOnlyAnswer (IsWorkAnswer (Faces out) written) (done lines)

-- Where OUT is what `simplify` answers to FILE, `faces` answers both alike.
abbrev pub FacesAnswersAlike : Type 0
FacesAnswersAlike =
    (options : Options) (bound : ℤ) (file out : List ℕ) (read written : Read) → IsWithinLimits (Simplify options bound file)
    → IsWorkAnswer (Simplify options bound file) read (done written.file) → AnswersAlike options file out read written

-- ---- one answer

-- The words have one answer over the texts that are held, so each refusal comes exactly where the definition gives it.
abbrev pub AnswerIsOne : Type 0
AnswerIsOne = (words : List (List ℕ)) (texts : Texts) (a b : Answer) → IsAnswer words texts a → IsAnswer words texts b → a ≡ b

-- ---- limits

-- What `simplify` writes of a text that is no longer than FILE may be is no longer than OUT may be.
abbrev pub SimplifiedIsShort : Type 0
SimplifiedIsShort =
    (options : Options) (bound : ℤ) (text bytes : List ℕ) → AreWeights options.weights → length text ≤ limit_of File
    → IsSimplified options bound text bytes → length bytes ≤ limit_of Out

-- What `layers` writes of a text is no longer than CERT may be.
abbrev pub CertifiedIsShort : Type 0
CertifiedIsShort =
    (options : Options) (bound : ℤ) (text bytes : List ℕ) → AreWeights options.weights → IsBound bound
    → IsCertified options bound text bytes → length bytes ≤ limit_of Cert
