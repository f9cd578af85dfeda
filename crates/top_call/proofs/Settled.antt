-- A run ends as its answer says.
use Rattle.std.proofs.Common.{◌≡◌, ◌∙◌, ℕ, ℤ, Bool, List, [], Option, None, Some, Result, Ok, Err, IfOk, IfErr, ap, refl, sym, subst, inl}
use Rattle.std.proofs.Common.{inr}
use Rattle.std.proofs.lemmas.List.{append-nil}
use Rattle.std.specs.Prelude.{◌≢◌, ◌⊎◌}
use Rattle.std.specs.Global.{Vec}
use Rattle.cert_checker.specs.declared.verdicts.Verdict.{Verdict}
use Rattle.cert_checker.specs.declared.verdicts.Verdict.TheVariants as verdicts
use Rattle.top_call.specs.declared.forms.Options.{Options}
use Rattle.top_call.specs.declared.status.Limit.TheVariants.{Text, Depth, Many}
use Rattle.top_call.specs.declared.status.Status.{Status}
use Rattle.top_call.specs.declared.status.Status.TheVariants.{Done, No, Usage, NotUtf8, NotJson, NotTopology, OffProfile, TooLarge}
use Rattle.top_call.specs.declared.status.Status.TheVariants.{NotArranged, ReadFault, WriteFault, NoMemory, OffWeights, NoPolygon}
use Rattle.top_call.specs.declared.status.Status.TheVariants.{NotGeoJson}
use Rattle.outside_io.specs.Texts.{Texts}
use Rattle.top_call.specs.declared.status.Role.{Role}
use Rattle.top_call.specs.Words.{Form, form_of}
use Rattle.top_call.specs.Reading.{Read, named, AreRead, AreShort, IsFirstPast, IsReadingStatus}
use Rattle.arc_map.specs.Map.{Map}
use Rattle.topo_reader.specs.Reads.{TopologyRead}
use Rattle.top_call.specs.Maps.{IsRefused, IsRefusal, IsLoaded}
use Rattle.top_call.specs.Answers.{Answer, refused, done, verdict_status, plain, faces_text, IsFaced, IsTextAnswer, IsMapAnswer, Refused}
use Rattle.top_call.specs.Answers.{IsCheckAnswer, RefusedFile, Told, IsChecked, IsWorkAnswer, IsFormAnswer, TooLong, Worked, IsAnswerBy}
use Rattle.top_call.specs.Answers.{IsAnswer, Written}
use Rattle.top_call.specs.Verdicts.{verdict_line}
use Rattle.top_call.specs.Endings.{IsMapStatus, IsWritten, Wrote, Replies, Settles}

-- ---- the three ways to end

pub settled_with : (IsIt : Answer → Type 0) (tells : Bool) (before now : List ℕ) (status : Status) (bytes : List ℕ) (result : Status)
    → IsIt (record { status = status; bytes = bytes }) → IsWritten status → Replies tells before now bytes status result
    → Settles IsIt tells before now result
settled_with IsIt tells before now Done bytes result is written (inl h) =
    subst (λ (s : Status). Settles IsIt tells before now s) (sym h.0) (done bytes, is, refl, h.1)
settled_with IsIt tells before now (No r) bytes result is written (inl h) =
    subst (λ (s : Status). Settles IsIt tells before now s) (sym h.0) (record { status = No r; bytes = bytes }, is, refl, h.1)
settled_with IsIt tells before now status bytes result is written (inr h) =
    subst (λ (s : Status). Settles IsIt tells before now s) (sym h.0) (record { status = status; bytes = bytes }, is, written, h.1)
settled_with IsIt tells before now Usage bytes result is written (inl h) = absurd written
settled_with IsIt tells before now (NotUtf8 at) bytes result is written (inl h) = absurd written
settled_with IsIt tells before now (NotJson at) bytes result is written (inl h) = absurd written
settled_with IsIt tells before now (NotTopology kind at) bytes result is written (inl h) = absurd written
settled_with IsIt tells before now (OffProfile kind at) bytes result is written (inl h) = absurd written
settled_with IsIt tells before now (TooLarge limit) bytes result is written (inl h) = absurd written
settled_with IsIt tells before now (NotArranged meeting) bytes result is written (inl h) = absurd written
settled_with IsIt tells before now ReadFault bytes result is written (inl h) = absurd written
settled_with IsIt tells before now WriteFault bytes result is written (inl h) = absurd written
settled_with IsIt tells before now NoMemory bytes result is written (inl h) = absurd written
settled_with IsIt tells before now (OffWeights arc at) bytes result is written (inl h) = absurd written
settled_with IsIt tells before now (NoPolygon k) bytes result is written (inl h) = absurd written
settled_with IsIt tells before now (NotGeoJson kind at) bytes result is written (inl h) = absurd written

-- nothing was written
unchanged : (tells : Bool) (before now : List ℕ) → now ≡ before → Wrote tells before now []
unchanged tells before now same = λ _. same ∙ sym (append-nil before)

pub settled_refused : (IsIt : Answer → Type 0) (tells : Bool) (before now : List ℕ) (s : Status) → now ≡ before → IsMapStatus s
    → (s ≢ NoMemory → IsIt (refused s)) → Settles IsIt tells before now s
settled_refused IsIt tells before now Done same kind is = absurd kind
settled_refused IsIt tells before now (No r) same kind is = absurd kind
settled_refused IsIt tells before now Usage same kind is = absurd kind
settled_refused IsIt tells before now (NotUtf8 at) same kind is =
    (refused (NotUtf8 at), is (λ e. cc), refl, unchanged tells before now same)
settled_refused IsIt tells before now (NotJson at) same kind is =
    (refused (NotJson at), is (λ e. cc), refl, unchanged tells before now same)
settled_refused IsIt tells before now (NotTopology kind at) same k is =
    (refused (NotTopology kind at), is (λ e. cc), refl, unchanged tells before now same)
settled_refused IsIt tells before now (OffProfile kind at) same k is =
    (refused (OffProfile kind at), is (λ e. cc), refl, unchanged tells before now same)
settled_refused IsIt tells before now (TooLarge limit) same kind is =
    (refused (TooLarge limit), is (λ e. cc), refl, unchanged tells before now same)
settled_refused IsIt tells before now (NotArranged meeting) same kind is =
    (refused (NotArranged meeting), is (λ e. cc), refl, unchanged tells before now same)
settled_refused IsIt tells before now ReadFault same kind is = absurd kind
settled_refused IsIt tells before now WriteFault same kind is = absurd kind
settled_refused IsIt tells before now NoMemory same kind is = tt
settled_refused IsIt tells before now (OffWeights arc at) same kind is =
    (refused (OffWeights arc at), is (λ e. cc), refl, unchanged tells before now same)
settled_refused IsIt tells before now (NoPolygon k) same kind is =
    (refused (NoPolygon k), is (λ e. cc), refl, unchanged tells before now same)
settled_refused IsIt tells before now (NotGeoJson geo at) same kind is =
    (refused (NotGeoJson geo at), is (λ e. cc), refl, unchanged tells before now same)

-- ---- what is said of more answers

pub settled_as : (P Q : Answer → Type 0) (tells : Bool) (before now : List ℕ) (s : Status) → ((a : Answer) → P a → Q a)
    → Settles P tells before now s → Settles Q tells before now s
settled_as P Q tells before now Done more h = (h.0, more h.0 h.1, h.2, h.3)
settled_as P Q tells before now (No r) more h = (h.0, more h.0 h.1, h.2, h.3)
settled_as P Q tells before now Usage more h = (h.0, more h.0 h.1, h.2, h.3)
settled_as P Q tells before now (NotUtf8 at) more h = (h.0, more h.0 h.1, h.2, h.3)
settled_as P Q tells before now (NotJson at) more h = (h.0, more h.0 h.1, h.2, h.3)
settled_as P Q tells before now (NotTopology kind at) more h = (h.0, more h.0 h.1, h.2, h.3)
settled_as P Q tells before now (OffProfile kind at) more h = (h.0, more h.0 h.1, h.2, h.3)
settled_as P Q tells before now (TooLarge limit) more h = (h.0, more h.0 h.1, h.2, h.3)
settled_as P Q tells before now (NotArranged meeting) more h = (h.0, more h.0 h.1, h.2, h.3)
settled_as P Q tells before now ReadFault more h = tt
settled_as P Q tells before now WriteFault more h = (h.0, more h.0 h.1, h.2, h.3)
settled_as P Q tells before now NoMemory more h = tt
settled_as P Q tells before now (OffWeights arc at) more h = (h.0, more h.0 h.1, h.2, h.3)
settled_as P Q tells before now (NoPolygon k) more h = (h.0, more h.0 h.1, h.2, h.3)
settled_as P Q tells before now (NotGeoJson kind at) more h = (h.0, more h.0 h.1, h.2, h.3)

-- ---- the forms

is_written : (v : Verdict) → IsWritten (verdict_status v)
is_written verdicts.Yes = tt
is_written (verdicts.No r) = tt

-- a refusal of the text is the answer
text_refused : (R : Status → Type 0) (W : List ℕ → Type 0) (s : Status) → (s ≡ NoMemory) ⊎ R s → s ≢ NoMemory
    → IsTextAnswer R W (refused s)
text_refused R W s (inl none) not = absurd (not none)
text_refused R W s (inr why) not = Refused s why refl

refused_check : (options : Options) (bound : ℤ) (read : Read) (s : Status) → IsRefused options read.file s → s ≢ NoMemory
    → IsCheckAnswer options bound read (refused s)
refused_check options bound read s (inl none) not = absurd (not none)
refused_check options bound read s (inr why) not = RefusedFile s why refl

pub map_written : (options : Options) (text : List ℕ) (W : List ℕ → Type 0) (tells : Bool) (before now bytes : List ℕ) (result : Status)
    → W bytes → Replies tells before now bytes Done result → Settles (IsMapAnswer options text W) tells before now result
map_written options text W tells before now bytes result is replies =
    settled_with (IsMapAnswer options text W) tells before now Done bytes result (Written bytes is refl) tt replies

pub map_refused : (options : Options) (text : List ℕ) (W : List ℕ → Type 0) (tells : Bool) (before now : List ℕ) (s : Status) → now ≡ before
    → IsMapStatus s → IsRefused options text s → Settles (IsMapAnswer options text W) tells before now s
map_refused options text W tells before now s same kind why =
    settled_refused (IsMapAnswer options text W) tells before now s same kind (text_refused (IsRefusal options text) W s why)

pub check_told : (options : Options) (bound : ℤ) (read : Read) (tells : Bool) (before now : List ℕ) (v : Verdict) (result : Status)
    → IsChecked options bound read v → Replies tells before now (verdict_line v) (verdict_status v) result
    → Settles (IsCheckAnswer options bound read) tells before now result
check_told options bound read tells before now v result checked replies =
    settled_with (IsCheckAnswer options bound read) tells before now (verdict_status v) (verdict_line v) result (Told v checked refl)
    (is_written v) replies

pub check_refused : (options : Options) (bound : ℤ) (read : Read) (tells : Bool) (before now : List ℕ) (s : Status) → now ≡ before
    → IsMapStatus s → IsRefused options read.file s → Settles (IsCheckAnswer options bound read) tells before now s
check_refused options bound read tells before now s same kind why =
    settled_refused (IsCheckAnswer options bound read) tells before now s same kind (refused_check options bound read s why)

-- the lines of the map that was loaded, or want of memory
pub faces_settled : (options : Options) (text : List ℕ) (t : TopologyRead) (held : List ℕ) (m : Map) (tells : Bool) (before now : List ℕ)
    (result : Status) → options ≡ plain → IsLoaded options text t held → m ≡ t.map
    → (result ≡ NoMemory) ⊎ Replies tells before now (faces_text m) Done result
    → Settles (IsMapAnswer plain text (IsFaced text)) tells before now result
faces_settled options text t held m tells before now result is_plain loaded is_map (inl none) =
    subst (λ (s : Status). Settles (IsMapAnswer plain text (IsFaced text)) tells before now s) (sym none) tt
faces_settled options text t held m tells before now result is_plain loaded is_map (inr replies) =
    let faced : IsFaced text (faces_text m) = record {
      topology = t;
      held = held;
      loaded = subst (λ (o : Options). IsLoaded o text t held) is_plain loaded;
      written = ap faces_text is_map;
    } in
    map_written plain text (IsFaced text) tells before now (faces_text m) result faced replies

-- ---- what was made, and then written

pub text_settles : {S : Type 0} (written : S → List ℕ) (old new : S) (R : List ℕ → Status → Type 0) (W : List ℕ → List ℕ → Type 0)
    (text file : List ℕ) (tells : Bool) (made : Result (Vec ℕ) Status) (result : Status) → text ≡ file → IfOk made (λ b. W text b.items)
    → IfErr made (λ s. (s ≡ NoMemory) ⊎ R text s) → IfErr made IsMapStatus
    → IfOk made (λ b. Replies tells (written old) (written new) b.items Done result) → IfErr made (λ s. (result ≡ s) × (new ≡ old))
    → Settles (IsTextAnswer (R file) (W file)) tells (written old) (written new) result
text_settles written old new R W text file tells (Ok b) result same made why status replies ended =
    let of_file = subst (λ (xs : List ℕ). W xs b.items) same made in
    settled_with (IsTextAnswer (R file) (W file)) tells (written old) (written new) Done b.items result (Written b.items of_file refl)
    tt replies
text_settles written old new R W text file tells (Err s) result same made why status replies ended =
    let of_file = subst (λ (xs : List ℕ). (s ≡ NoMemory) ⊎ R xs s) same why in
    let answer =
    settled_refused (IsTextAnswer (R file) (W file)) tells (written old) (written new) s (ap written ended.1) status
    (text_refused (R file) (W file) s of_file) in
    subst (λ (r : Status). Settles (IsTextAnswer (R file) (W file)) tells (written old) (written new) r) (sym ended.0) answer

pub check_settles : {S : Type 0} (written : S → List ℕ) (old new : S) (options : Options) (bound : ℤ) (read : Read) (tells : Bool)
    (found : Result Verdict Status) (result : Status) → IfOk found (IsChecked options bound read)
    → IfErr found (IsRefused options read.file) → IfErr found IsMapStatus
    → IfOk found (λ v. (result ≡ NoMemory) ⊎ Replies tells (written old) (written new) (verdict_line v) (verdict_status v) result)
    → IfErr found (λ s. (result ≡ s) × (new ≡ old)) → Settles (IsCheckAnswer options bound read) tells (written old) (written new) result
check_settles written old new options bound read tells (Ok v) result checked refused status (inl none) ended =
    subst (λ (r : Status). Settles (IsCheckAnswer options bound read) tells (written old) (written new) r) (sym none) tt
check_settles written old new options bound read tells (Ok v) result checked refused status (inr replies) ended =
    check_told options bound read tells (written old) (written new) v result checked replies
check_settles written old new options bound read tells (Err s) result checked refused status replies ended =
    subst (λ (r : Status). Settles (IsCheckAnswer options bound read) tells (written old) (written new) r) (sym ended.0)
    (check_refused options bound read tells (written old) (written new) s (ap written ended.1) status refused)

pub faces_settles : (text file : List ℕ) (tells : Bool) (before now : List ℕ) (result : Status) → text ≡ file
    → Settles (IsMapAnswer plain text (IsFaced text)) tells before now result
    → Settles (IsMapAnswer plain file (IsFaced file)) tells before now result
faces_settles text file tells before now result same h =
    subst (λ (xs : List ℕ). Settles (IsMapAnswer plain xs (IsFaced xs)) tells before now result) same h

-- bytes that are made of no text
pub made_settles : {S : Type 0} (written : S → List ℕ) (old new : S) (W : List ℕ → Type 0) (IsIt : Answer → Type 0) (tells : Bool)
    (made : Result (Vec ℕ) Status) (result : Status) → ((bytes : List ℕ) → W bytes → IsIt (done bytes)) → IfOk made (λ b. W b.items)
    → IfErr made (λ s. s ≡ NoMemory) → IfOk made (λ b. Replies tells (written old) (written new) b.items Done result)
    → IfErr made (λ s. (result ≡ s) × (new ≡ old)) → Settles IsIt tells (written old) (written new) result
made_settles written old new W IsIt tells (Ok b) result says is refused replies ended =
    settled_with IsIt tells (written old) (written new) Done b.items result (says b.items is) tt replies
made_settles written old new W IsIt tells (Err s) result says is refused replies ended =
    subst (λ (r : Status). Settles IsIt tells (written old) (written new) r) (sym (ended.0 ∙ refused)) tt

-- ---- the whole

-- the answer of the work is that of the form
pub form_settled : (f : Form) (texts : Texts) (read : Read) (tells : Bool) (before now : List ℕ) (s : Status) → AreRead texts (named f) read
    → AreShort read → Settles (IsWorkAnswer f read) tells before now s → Settles (IsFormAnswer f texts) tells before now s
form_settled f texts read tells before now s are short h =
    settled_as (IsWorkAnswer f read) (IsFormAnswer f texts) tells before now s (λ a is. Worked read are short is) h

-- a text that is too long is the answer; where a call failed or memory was wanting nothing is said
pub reading_settled : (f : Form) (texts : Texts) (tells : Bool) (before now : List ℕ) (s : Status) → now ≡ before → IsReadingStatus s
    → ((r : Role) → s ≡ TooLarge (Text r) → IsFirstPast texts (named f) r) → Settles (IsFormAnswer f texts) tells before now s
reading_settled f texts tells before now ReadFault same kind past = tt
reading_settled f texts tells before now NoMemory same kind past = tt
reading_settled f texts tells before now (TooLarge (Text r)) same kind past =
    (refused (TooLarge (Text r)), TooLong r (past r refl) refl, refl, unchanged tells before now same)
reading_settled f texts tells before now (TooLarge (Depth at)) same kind past = absurd kind
reading_settled f texts tells before now (TooLarge (Many what at)) same kind past = absurd kind
reading_settled f texts tells before now Done same kind past = absurd kind
reading_settled f texts tells before now (No r) same kind past = absurd kind
reading_settled f texts tells before now Usage same kind past = absurd kind
reading_settled f texts tells before now (NotUtf8 at) same kind past = absurd kind
reading_settled f texts tells before now (NotJson at) same kind past = absurd kind
reading_settled f texts tells before now (NotTopology k at) same kind past = absurd kind
reading_settled f texts tells before now (OffProfile k at) same kind past = absurd kind
reading_settled f texts tells before now (NotArranged meeting) same kind past = absurd kind
reading_settled f texts tells before now WriteFault same kind past = absurd kind
reading_settled f texts tells before now (OffWeights arc at) same kind past = absurd kind
reading_settled f texts tells before now (NoPolygon k) same kind past = absurd kind
reading_settled f texts tells before now (NotGeoJson k at) same kind past = absurd kind

-- the answer of the form of the words is that of the words
pub words_settled : (words : List (List ℕ)) (texts : Texts) (f : Form) (tells : Bool) (before now : List ℕ) (s : Status)
    → Some f ≡ form_of words → Settles (IsFormAnswer f texts) tells before now s → Settles (IsAnswer words texts) tells before now s
words_settled words texts f tells before now s is h = subst (λ (o : Option Form). Settles (IsAnswerBy o texts) tells before now s) is h

pub usage_settled : (words : List (List ℕ)) (texts : Texts) (tells : Bool) (before now : List ℕ) → now ≡ before → None ≡ form_of words
    → Settles (IsAnswer words texts) tells before now Usage
usage_settled words texts tells before now same is =
    (refused Usage, subst (λ (o : Option Form). IsAnswerBy o texts (refused Usage)) is refl, refl, unchanged tells before now same)
