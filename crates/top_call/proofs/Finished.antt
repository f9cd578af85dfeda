-- What was written for FILE is found right, and has the lines of FILE.
use Rattle.std.proofs.Common.{◌≡◌, ◌∙◌, ℕ, ℤ, ◌≤◌, ◌^◌, Bool, false, List, [], ◌∷◌, ◌++◌, Option, Some, length, ap, refl, sym, subst, inl}
use Rattle.std.proofs.Common.{inr, arith}
use Rattle.std.specs.Prelude.{◌≢◌}
use Rattle.outside_io.specs.Texts.{Texts, text_of}
use Rattle.std.proofs.lemmas.Option.{same_Some}
use Rattle.cert_checker.specs.declared.verdicts.Verdict.TheVariants.{Yes}
use Rattle.top_call.specs.declared.forms.Options.{Options}
use Rattle.top_call.specs.declared.status.Limit.TheVariants.{Text}
use Rattle.top_call.specs.declared.status.Role.TheVariants.{File}
use Rattle.top_call.specs.declared.status.Status.{Status}
use Rattle.top_call.specs.declared.status.Status.TheVariants.{Done, ReadFault, TooLarge, WriteFault}
use Rattle.top_call.specs.Words.{Form, Simplify, Layers, Check, Faces, form_of}
use Rattle.top_call.specs.Requests.{IsWithinLimits}
use Rattle.top_call.specs.Reading.{Named, named, Read, AreRead}
use Rattle.top_call.specs.Verdicts.{verdict_line}
use Rattle.top_call.specs.Answers.{Answer, done, plain, IsSimplified, IsCertified, IsFaced, IsMapAnswer, Written, Told, IsWorkAnswer}
use Rattle.top_call.specs.Answers.{IsFormAnswer, NotHeld, TooLong, Worked, IsAnswerBy, IsAnswer}
use Rattle.top_call.specs.Endings.{Settles}
use Rattle.top_call.specs.Headline.{Finishes, AreWrittenFor, ReachesYes, IsWrittenFor, KeepsLines}
use Rattle.top_call.proofs.AnswerOfWords.{form_answer_is_one}
use Rattle.top_call.proofs.FacesAlike.{plain_lines, lines_written}
use Rattle.top_call.proofs.OneAnswer.{written_by}
use Rattle.top_call.proofs.OnlyYes.{simplified_checks_yes}
use Rattle.top_call.proofs.Promised.{answered}
use Rattle.top_call.proofs.ShortCertificates.{certified_is_short}
use Rattle.top_call.proofs.ShortOutputs.{simplified_is_short}
use Rattle.top_call.proofs.Spelling.{form_spells}

-- ---- what a form wrote of FILE

-- the text of FILE is held and short, and these bytes are what the form writes of it
record IsOfFile (texts : Texts) (file : List ℕ) (W : List ℕ → List ℕ → Type 0) (bytes : List ℕ) : Type 0 where
  text : List ℕ
  is_held : text_of texts file ≡ Some text
  short : length text ≤ 2 ^ 26
  is : W text bytes

of_file : (f : Form) (options : Options) (texts : Texts) (file : List ℕ) (W : List ℕ → List ℕ → Type 0) (bytes : List ℕ)
    → named f ≡ (File, file) ∷ [] → ((read : Read) (a : Answer) → IsWorkAnswer f read a → IsMapAnswer options read.file (W read.file) a)
    → IsFormAnswer f texts (done bytes) → IsOfFile texts file W bytes
of_file f options texts file W bytes names works (NotHeld none is) =
    let never : Done ≡ ReadFault = ap (λ (a : Answer). a.status) is in
    absurd cc
of_file f options texts file W bytes names works (TooLong role past is) =
    let never : Done ≡ TooLarge (Text role) = ap (λ (a : Answer). a.status) is in
    absurd cc
of_file f options texts file W bytes names works (Worked read are short work) =
    let here = subst (λ (ns : List Named). AreRead texts ns read) names are in
    record {
      text = read.file;
      is_held = here.0;
      short = short.file;
      is =
          written_by options read.file (W read.file) bytes (works read (done bytes) work);
    }

simplified_of : (options : Options) (bound : ℤ) (texts : Texts) (file bytes : List ℕ)
    → IsFormAnswer (Simplify options bound file) texts (done bytes) → IsOfFile texts file (IsSimplified options bound) bytes
simplified_of options bound texts file bytes is =
    of_file (Simplify options bound file) options texts file (IsSimplified options bound) bytes refl (λ read a work. work) is

certified_of : (options : Options) (bound : ℤ) (texts : Texts) (file bytes : List ℕ)
    → IsFormAnswer (Layers options bound file) texts (done bytes) → IsOfFile texts file (IsCertified options bound) bytes
certified_of options bound texts file bytes is =
    of_file (Layers options bound file) options texts file (IsCertified options bound) bytes refl (λ read a work. work) is

faced_of : (texts : Texts) (file bytes : List ℕ) → IsFormAnswer (Faces file) texts (done bytes)
    → IsOfFile texts file (λ text lines. IsFaced text lines) bytes
faced_of texts file bytes is = of_file (Faces file) plain texts file (λ text lines. IsFaced text lines) bytes refl (λ read a work. work) is

-- ---- a run of a form whose answer is known

finished : (words : List (List ℕ)) (texts : Texts) (tells : Bool) (before now : List ℕ) (s : Status) (f : Form) (bytes : List ℕ)
    → Settles (IsAnswer words texts) tells before now s → s ≢ ReadFault → s ≢ WriteFault → form_of words ≡ Some f
    → IsFormAnswer f texts (done bytes) → Finishes tells before now bytes s
finished words texts tells before now s f bytes settled read write is_form is =
    elim (answered (IsAnswer words texts) tells before now s read write settled) [
      | inl none ↦ inr none
      | inr known ↦
          let one =
          form_answer_is_one f texts known.0 (done bytes) (subst (λ (o : Option Form). IsAnswerBy o texts known.0) is_form known.1)
          is in
          inl (known.2 ∙ ap (λ (a : Answer). a.status) one, λ told. known.3 told ∙ ap (λ (a : Answer). before ++ a.bytes) one)
    ]

-- ---- yes

yes_answered : (options : Options) (bound : ℤ) (texts : Texts) (file out cert : List ℕ) → IsWithinLimits (Check options bound file out cert)
    → AreWrittenFor options bound texts file out cert → IsFormAnswer (Check options bound file out cert) texts (done (verdict_line Yes))
yes_answered options bound texts file out cert limits are =
    let thinned = simplified_of options bound texts file are.written are.simplified in
    let other = certified_of options bound texts file are.certificate are.certified in
    let same = same_Some other.text thinned.text (sym other.is_held ∙ thinned.is_held) in
    let certified = subst (λ (xs : List ℕ). IsCertified options bound xs are.certificate) same other.is in
    let read : Read = record { file = thinned.text; out = are.written; cert = are.certificate } in
    let checked = (simplified_checks_yes options bound read Yes limits.0 limits.1 thinned.is certified).1 refl in
    Worked read (thinned.is_held, (are.out_held, (are.cert_held, tt)))
    (record {
      file = thinned.short;
      out = simplified_is_short options bound thinned.text are.written limits.0 thinned.short thinned.is;
      cert = certified_is_short options bound thinned.text are.certificate limits.0 limits.1 certified;
    })
    (Told Yes checked refl)

pub reaches_yes : (words : List (List ℕ)) (texts : Texts) (tells : Bool) (before now : List ℕ) (s : Status)
    → Settles (IsAnswer words texts) tells before now s → s ≢ ReadFault → s ≢ WriteFault → ReachesYes words texts tells before now s
reaches_yes words texts tells before now s settled read write options bound file out cert is_form are =
    let limits = (form_spells words (Some (Check options bound file out cert)) (sym is_form)).1 in
    finished words texts tells before now s (Check options bound file out cert) (verdict_line Yes) settled read write is_form
    (yes_answered options bound texts file out cert limits are)

-- ---- the lines of FILE

lines_answered : (options : Options) (bound : ℤ) (texts : Texts) (file out lines : List ℕ) → IsWrittenFor options bound texts file out
    → IsFormAnswer (Faces file) texts (done lines) → IsFormAnswer (Faces out) texts (done lines)
lines_answered options bound texts file out lines are is =
    let thinned = simplified_of options bound texts file are.written are.simplified in
    let other = faced_of texts file lines is in
    let same = same_Some other.text thinned.text (sym other.is_held ∙ thinned.is_held) in
    let faced = subst (λ (xs : List ℕ). IsFaced xs lines) same other.is in
    let only = lines_written options bound thinned.text are.written lines thinned.is faced in
    Worked (record { file = are.written; out = []; cert = [] }) (are.is_held, tt)
    (record { file = are.short; out = omega arith; cert = omega arith }) ((only (done lines)).1 refl)

file_has_lines : (options : Options) (bound : ℤ) (texts : Texts) (file out : List ℕ) → IsWrittenFor options bound texts file out
    → options.hold ≡ false → (lines : List ℕ) × IsFormAnswer (Faces file) texts (done lines)
file_has_lines options bound texts file out are none =
    let thinned = simplified_of options bound texts file are.written are.simplified in
    let has = plain_lines options bound thinned.text are.written none are.limits.0 thinned.is in (
      has.0,
      Worked (record { file = thinned.text; out = []; cert = [] }) (thinned.is_held, tt)
          (record { file = thinned.short; out = omega arith; cert = omega arith }) (Written has.0 has.1 refl),
    )

pub keeps_lines : (words : List (List ℕ)) (texts : Texts) (tells : Bool) (before now : List ℕ) (s : Status)
    → Settles (IsAnswer words texts) tells before now s → s ≢ ReadFault → s ≢ WriteFault → KeepsLines words texts tells before now s
keeps_lines words texts tells before now s settled read write options bound file out is_form are =
    record {
      has_lines = file_has_lines options bound texts file out are;
      same_lines =
          λ lines is. finished words texts tells before now s (Faces out) lines settled read write is_form
          (lines_answered options bound texts file out lines are is);
    }
