-- The promises of a run, from its answer.
use Rattle.std.proofs.Common.{◌≡◌, ◌∙◌, ◌≤◌, ℕ, Bool, List, [], ◌∷◌, ◌++◌, Option, None, Some, length, ap, refl, sym, subst, inl, inr}
use Rattle.std.proofs.Common.{arith}
use Rattle.std.proofs.lemmas.List.{append_cancel_left}
use Rattle.std.specs.Prelude.{◌≢◌, ◌⊎◌, IsTrue}
use Rattle.std.proofs.lemmas.Option.{none-some, same_Some}
use Rattle.outside_io.specs.Texts.{Texts, text_of}
use Rattle.topo_reader.specs.Reads.{TopologyRead}
use Rattle.top_call.specs.declared.forms.Options.{Options}
use Rattle.top_call.specs.declared.status.Role.{Role}
use Rattle.top_call.specs.declared.status.Role.TheVariants.{File}
use Rattle.top_call.specs.declared.status.Status.{Status}
use Rattle.top_call.specs.declared.status.Status.TheVariants.{Done, No, Usage, NotUtf8, NotJson, NotTopology, OffProfile, TooLarge}
use Rattle.top_call.specs.declared.status.Status.TheVariants.{NotArranged, ReadFault, WriteFault, NoMemory, OffWeights, NoPolygon}
use Rattle.top_call.specs.declared.status.Status.TheVariants.{NotGeoJson}
use Rattle.top_call.specs.Words.{Form, Simplify, Layers, Check, Faces, Make, Demo, Dissolve, Build, Pyramid, form_of}
use Rattle.top_call.specs.Reading.{Read, Named, named, limit_of, AreRead, IsWithin, IsPast, IsFirstPast, IsFirstUnheld}
use Rattle.top_call.specs.Maps.{IsLoaded, IsRefusal}
use Rattle.top_call.specs.Built.{HasGeo, IsGeoRefusal, IsBuiltOf}
use Rattle.top_call.specs.Answers.{Answer, plain, IsSimplified, IsCertified, IsFaced, IsTextAnswer, IsMapAnswer, Refused, Written}
use Rattle.top_call.specs.Answers.{IsDissolved, IsBorderRefusal, RefusedMap, Missed, IsRanked, IsWorkAnswer, IsFormAnswer, NotHeld}
use Rattle.top_call.specs.Answers.{TooLong, Worked, IsAnswerBy, IsAnswer}
use Rattle.top_call.specs.Endings.{IsMapStatus, IsWritten, IsWorkStatus, Wrote, Settles}
use Rattle.top_call.specs.Headline.{IsFaithful, Headline, IsReady, HasPolygons, IsGeoReady, CanWork, Completes, IsBorderOf, Borders}
use Rattle.top_call.specs.Headline.{Levels, Builds, IsMaking, IsMakingStatus, Makes}
use Rattle.top_call.proofs.Borders.{all_there, known_not_refused, dissolved_is_border}
use Rattle.top_call.proofs.BuiltTexts.{geo_kind, geo_not_refused}
use Rattle.top_call.proofs.Faithful.{simplified_is_faithful}
use Rattle.top_call.proofs.NotRefused.{loaded_not_refused}
use Rattle.top_call.proofs.RefusalKinds.{refusal_kind}

-- ---- answers that are known

-- memory was wanting, or the run ended as its answer says
pub answered : (IsIt : Answer → Type 0) (tells : Bool) (before now : List ℕ) (s : Status) → s ≢ ReadFault → s ≢ WriteFault
    → Settles IsIt tells before now s → (s ≡ NoMemory) ⊎ ((a : Answer) × IsIt a × (s ≡ a.status) × Wrote tells before now a.bytes)
answered IsIt tells before now Done read write h = inr h
answered IsIt tells before now (No r) read write h = inr h
answered IsIt tells before now Usage read write h = inr h
answered IsIt tells before now (NotUtf8 at) read write h = inr h
answered IsIt tells before now (NotJson at) read write h = inr h
answered IsIt tells before now (NotTopology kind at) read write h = inr h
answered IsIt tells before now (OffProfile kind at) read write h = inr h
answered IsIt tells before now (TooLarge limit) read write h = inr h
answered IsIt tells before now (NotArranged meeting) read write h = inr h
answered IsIt tells before now ReadFault read write h = absurd (read refl)
answered IsIt tells before now WriteFault read write h = absurd (write refl)
answered IsIt tells before now NoMemory read write h = inl refl
answered IsIt tells before now (OffWeights arc at) read write h = inr h
answered IsIt tells before now (NoPolygon k) read write h = inr h
answered IsIt tells before now (NotGeoJson kind at) read write h = inr h

-- ---- what is written of a text that is simplified

-- what a form did, where it is done, by its work on the text of FILE
done_form : (f : Form) (file text : List ℕ) (texts : Texts) (a : Answer) (P : Type 0) → named f ≡ (File, file) ∷ []
    → text_of texts file ≡ Some text → Done ≡ a.status → ((read : Read) → read.file ≡ text → IsWorkAnswer f read a → P)
    → IsFormAnswer f texts a → P
done_form f file text texts a P names is_text is_done works (NotHeld none e) =
    let never : Done ≡ ReadFault = is_done ∙ ap (λ (b : Answer). b.status) e in
    absurd cc
done_form f file text texts a P names is_text is_done works (TooLong role past e) =
    let never = is_done ∙ ap (λ (b : Answer). b.status) e in
    absurd cc
done_form f file text texts a P names is_text is_done works (Worked read are short work) =
    let here = subst (λ (ns : List Named). AreRead texts ns read) names are in
    works read (same_Some read.file text (sym here.0 ∙ is_text)) work

-- what a run did that is done and wrote these bytes, by the work of its form on the text of FILE
pub done_words : (words : List (List ℕ)) (texts : Texts) (tells : Bool) (before now : List ℕ) (s : Status) (f : Form)
    (file text bytes : List ℕ) (P : Type 0) → Settles (IsAnswer words texts) tells before now s → IsTrue tells → form_of words ≡ Some f
    → named f ≡ (File, file) ∷ [] → text_of texts file ≡ Some text → s ≡ Done → now ≡ before ++ bytes
    → ((read : Read) (a : Answer) → read.file ≡ text → Done ≡ a.status → bytes ≡ a.bytes → IsWorkAnswer f read a → P) → P
done_words words texts tells before now s f file text bytes P settled told is_form names is_text is_done wrote works =
    let known = subst (λ (r : Status). Settles (IsAnswer words texts) tells before now r) is_done settled in
    let answer = subst (λ (o : Option Form). IsAnswerBy o texts known.0) is_form known.1 in
    let written = append_cancel_left before bytes known.0.bytes (sym wrote ∙ known.3 told) in
    done_form f file text texts known.0 P names is_text known.2 (λ read same work. works read known.0 same known.2 written work) answer

-- what a form wrote of a text, where it is done
text_wrote : (R : Status → Type 0) (W : List ℕ → Type 0) (bytes : List ℕ) (a : Answer) → ((s : Status) → R s → IsMapStatus s)
    → Done ≡ a.status → bytes ≡ a.bytes → IsTextAnswer R W a → W bytes
text_wrote R W bytes a kind is_done is (Refused s why e) =
    let same : s ≡ Done = sym (is_done ∙ ap (λ (b : Answer). b.status) e) in
    absurd (subst IsMapStatus same (kind s why))
text_wrote R W bytes a kind is_done is (Written out by e) =
    let of_bytes : out ≡ bytes = sym (is ∙ ap (λ (b : Answer). b.bytes) e) in
    subst W of_bytes by

pub headline : (words : List (List ℕ)) (texts : Texts) (tells : Bool) (before now : List ℕ) (s : Status)
    → Settles (IsAnswer words texts) tells before now s → IsTrue tells → Headline words texts before now s
headline words texts tells before now s settled told options bound file text bytes is_form is_text is_done wrote =
    done_words words texts tells before now s (Simplify options bound file) file text bytes
    (IsFaithful options bound text bytes) settled told is_form
    refl is_text is_done wrote (λ read a same done is work.
    let written = text_wrote (IsRefusal options read.file) (IsSimplified options bound read.file) bytes a
    (refusal_kind options read.file) done is work in
    simplified_is_faithful options bound text bytes (subst (λ (xs : List ℕ). IsSimplified options bound xs bytes) same written))

-- ---- what is written of polygons that are dissolved

border_kind : (polygons text : List ℕ) (s : Status) → IsBorderRefusal polygons text s → IsMapStatus s
border_kind polygons text s (RefusedMap why) = refusal_kind plain text s why
border_kind polygons text s (Missed k missing is) = subst IsMapStatus (sym is) tt

pub borders : (words : List (List ℕ)) (texts : Texts) (tells : Bool) (before now : List ℕ) (s : Status)
    → Settles (IsAnswer words texts) tells before now s → IsTrue tells → Borders words texts before now s
borders words texts tells before now s settled told polygons file text bytes is_form is_text is_done wrote =
    done_words words texts tells before now s (Dissolve polygons file) file text bytes (IsBorderOf polygons text bytes) settled told is_form
    refl is_text is_done wrote (λ read a same done is work.
    let written = text_wrote (IsBorderRefusal polygons read.file) (IsDissolved polygons read.file) bytes a
    (border_kind polygons read.file) done is work in
    dissolved_is_border polygons text bytes (subst (λ (xs : List ℕ). IsDissolved polygons xs bytes) same written))

-- ---- what is written of levels

pub levels : (words : List (List ℕ)) (texts : Texts) (tells : Bool) (before now : List ℕ) (s : Status)
    → Settles (IsAnswer words texts) tells before now s → IsTrue tells → Levels words texts before now s
levels words texts tells before now s settled told bounds file text bytes is_form is_text is_done wrote =
    done_words words texts tells before now s (Pyramid bounds file) file text bytes (IsRanked bounds text bytes) settled told is_form
    refl is_text is_done wrote (λ read a same done is work.
    let written = text_wrote (IsRefusal plain read.file) (IsRanked bounds read.file) bytes a (refusal_kind plain read.file) done is work in
    subst (λ (xs : List ℕ). IsRanked bounds xs bytes) same written)

-- ---- what is built

pub builds : (words : List (List ℕ)) (texts : Texts) (tells : Bool) (before now : List ℕ) (s : Status)
    → Settles (IsAnswer words texts) tells before now s → IsTrue tells → Builds words texts before now s
builds words texts tells before now s settled told file text bytes is_form is_text is_done wrote =
    done_words words texts tells before now s (Build file) file text bytes (IsBuiltOf text bytes) settled told is_form
    refl is_text is_done wrote (λ read a same done is work.
    let written = text_wrote (IsGeoRefusal read.file) (IsBuiltOf read.file) bytes a (geo_kind read.file) done is work in
    subst (λ (xs : List ℕ). IsBuiltOf xs bytes) same written)

-- ---- which texts are worked on

-- a text is held under each name, and is no longer than its role allows
abbrev pub AreWithin : Texts → List Named → Type 0
AreWithin texts [] = Unit {0}
AreWithin texts (n ∷ ns) = IsWithin n.0 (text_of texts n.1) × AreWithin texts ns

pub file_within : (options : Options) (texts : Texts) (file : List ℕ) → IsReady options texts file → IsWithin File (text_of texts file)
file_within options texts file ready = subst (IsWithin File) (sym ready.is_held) ready.short

-- then none is missing
pub none_unheld : (texts : Texts) (names : List Named) → AreWithin texts names → IsFirstUnheld texts names → ⊥
none_unheld texts [] within unheld = unheld
none_unheld texts (n ∷ ns) within (inl none) = subst (IsWithin n.0) none within.0
none_unheld texts (n ∷ ns) within (inr later) = none_unheld texts ns within.1 later.1

pub within_not_past : (role : Role) (text : Option (List ℕ)) → IsWithin role text → IsPast role text → ⊥
within_not_past role None within past = past
within_not_past role (Some bytes) within past = omega (arith, within, past)

-- and none is too long
pub none_past : (texts : Texts) (names : List Named) (role : Role) → AreWithin texts names → IsFirstPast texts names role → ⊥
none_past texts [] role within past = past
none_past texts (n ∷ ns) role within (inl past) = within_not_past n.0 (text_of texts n.1) within.0 past.1
none_past texts (n ∷ ns) role within (inr later) = none_past texts ns role within.1 later.1

-- a text that is not refused is worked on
text_done : (R : Status → Type 0) (W : List ℕ → Type 0) (a : Answer) → ((s : Status) → R s → ⊥) → IsTextAnswer R W a → a.status ≡ Done
text_done R W a never (Refused s why e) = absurd (never s why)
text_done R W a never (Written bytes is e) = ap (λ (b : Answer). b.status) e

-- the answer of a form that names FILE alone, by its work on the text, which is held and short
ready_work : (file text : List ℕ) (f : Form) (texts : Texts) (a : Answer) → named f ≡ (File, file) ∷ [] → text_of texts file ≡ Some text
    → length text ≤ limit_of File → ((read : Read) → text ≡ read.file → IsWorkAnswer f read a → a.status ≡ Done)
    → IsFormAnswer f texts a → a.status ≡ Done
ready_work file text f texts a names held short works (NotHeld none e) =
    absurd (none_unheld texts ((File, file) ∷ []) (subst (IsWithin File) (sym held) short, tt)
    (subst (λ (ns : List Named). IsFirstUnheld texts ns) names none))
ready_work file text f texts a names held short works (TooLong role past e) =
    absurd (none_past texts ((File, file) ∷ []) role (subst (IsWithin File) (sym held) short, tt)
    (subst (λ (ns : List Named). IsFirstPast texts ns role) names past))
ready_work file text f texts a names held short works (Worked read are few work) =
    let here = subst (λ (ns : List Named). AreRead texts ns read) names are in
    works read (same_Some text read.file (sym held ∙ here.0)) work

-- the answer of a form that works on the map of FILE alone
ready_answer : (options : Options) (file : List ℕ) (W : List ℕ → List ℕ → Type 0) (f : Form) (texts : Texts) (a : Answer)
    → named f ≡ (File, file) ∷ [] → ((read : Read) → IsWorkAnswer f read a → IsMapAnswer options read.file (W read.file) a)
    → IsReady options texts file → IsFormAnswer f texts a → a.status ≡ Done
ready_answer options file W f texts a names works ready is =
    ready_work file ready.text f texts a names ready.is_held ready.short (λ read same work.
    let loaded = subst (λ (xs : List ℕ). IsLoaded options xs ready.topology ready.held) same ready.loaded in
    text_done (IsRefusal options read.file) (W read.file) a
    (λ s why. loaded_not_refused options read.file ready.topology ready.held s loaded why) (works read work)) is

polygons_done : (polygons file : List ℕ) (texts : Texts) (a : Answer) → HasPolygons polygons texts file
    → IsFormAnswer (Dissolve polygons file) texts a → a.status ≡ Done
polygons_done polygons file texts a has is =
    let ready = has.ready in
    let known = all_there (length ready.topology.map.polygons) polygons has.known in
    ready_work file ready.text (Dissolve polygons file) texts a refl ready.is_held ready.short (λ read same work.
    let loaded = subst (λ (xs : List ℕ). IsLoaded plain xs ready.topology ready.held) same ready.loaded in
    text_done (IsBorderRefusal polygons read.file) (IsDissolved polygons read.file) a
    (λ s why. known_not_refused polygons read.file ready.topology ready.held s loaded known why) work) is

built_done : (file : List ℕ) (texts : Texts) (a : Answer) → IsGeoReady texts file → IsFormAnswer (Build file) texts a → a.status ≡ Done
built_done file texts a ready is =
    ready_work file ready.text (Build file) texts a refl ready.is_held ready.short (λ read same work.
    let has = subst (λ (xs : List ℕ). HasGeo xs ready.tree ready.geo) same ready.has in
    text_done (IsGeoRefusal read.file) (IsBuiltOf read.file) a (λ s why. geo_not_refused read.file ready.tree ready.geo s has why) work) is

form_done : (f : Form) (texts : Texts) (a : Answer) → CanWork f texts → IsFormAnswer f texts a → a.status ≡ Done
form_done (Simplify options bound file) texts a ready is =
    ready_answer options file (λ text bytes. IsSimplified options bound text bytes) (Simplify options bound file) texts a refl
    (λ read work. work) ready is
form_done (Layers options bound file) texts a ready is =
    ready_answer options file (λ text bytes. IsCertified options bound text bytes) (Layers options bound file) texts a refl
    (λ read work. work) ready is
form_done (Faces file) texts a ready is =
    ready_answer plain file (λ text bytes. IsFaced text bytes) (Faces file) texts a refl (λ read work. work) ready is
form_done (Dissolve polygons file) texts a has is = polygons_done polygons file texts a has is
form_done (Build file) texts a ready is = built_done file texts a ready is
form_done (Pyramid bounds file) texts a ready is =
    ready_answer plain file (λ text bytes. IsRanked bounds text bytes) (Pyramid bounds file) texts a refl (λ read work. work) ready is
form_done (Check options bound file out cert) texts a ready is = absurd ready
form_done (Make rows cols seed) texts a ready is = absurd ready
form_done (Demo rows cols seed bound) texts a ready is = absurd ready

pub completes : (words : List (List ℕ)) (texts : Texts) (tells : Bool) (before now : List ℕ) (s : Status)
    → Settles (IsAnswer words texts) tells before now s → s ≢ ReadFault → s ≢ WriteFault → Completes words texts s
completes words texts tells before now s settled read write f is_form can =
    elim (answered (IsAnswer words texts) tells before now s read write settled) [
      | inl none ↦ inr none
      | inr known ↦ inl (known.2 ∙ form_done f texts known.0 can (subst (λ (o : Option Form). IsAnswerBy o texts known.0) is_form known.1))
    ]

-- ---- the forms that make a coverage

making_done : (f : Form) (read : Read) (a : Answer) → IsMaking f → IsWorkAnswer f read a → a.status ≡ Done
making_done (Make rows cols seed) read a making is = ap (λ (b : Answer). b.status) is
making_done (Demo rows cols seed bound) read a making is = ap (λ (b : Answer). b.status) is.2
making_done (Simplify options bound file) read a making is = absurd making
making_done (Layers options bound file) read a making is = absurd making
making_done (Check options bound file out cert) read a making is = absurd making
making_done (Faces file) read a making is = absurd making
making_done (Dissolve polygons file) read a making is = absurd making
making_done (Build file) read a making is = absurd making
making_done (Pyramid bounds file) read a making is = absurd making

-- a work status that is no failed write is no failed read
not_read_fault : (s : Status) → IsWorkStatus s → s ≢ ReadFault
not_read_fault s (inl written) is = subst IsWritten is written
not_read_fault s (inr (inl failed)) is = let never : WriteFault ≡ ReadFault = sym failed ∙ is in absurd cc
not_read_fault s (inr (inr kind)) is = subst IsMapStatus is kind

making_settled : (f : Form) (read : Read) (tells : Bool) (before now : List ℕ) (s : Status) → IsMaking f → s ≢ ReadFault → s ≢ WriteFault
    → Settles (IsWorkAnswer f read) tells before now s → IsMakingStatus s
making_settled f read tells before now s making no_read no_write settled =
    elim (answered (IsWorkAnswer f read) tells before now s no_read no_write settled) [
      | inl none ↦ inr (inr none)
      | inr known ↦ inl (known.2 ∙ making_done f read known.0 making known.1)
    ]

pub making_ends : (f : Form) (read : Read) (tells : Bool) (before now : List ℕ) (s : Status) → IsWorkStatus s
    → Settles (IsWorkAnswer f read) tells before now s → IsMaking f → IsMakingStatus s
making_ends f read tells before now s (inr (inl failed)) settled making = inr (inl failed)
making_ends f read tells before now s (inl written) settled making =
    making_settled f read tells before now s making (not_read_fault s (inl written)) (λ is. subst IsWritten is written) settled
making_ends f read tells before now s (inr (inr kind)) settled making =
    making_settled f read tells before now s making (not_read_fault s (inr (inr kind))) (λ is. subst IsMapStatus is kind) settled

pub making_names_none : (f : Form) → IsMaking f → named f ≡ []
making_names_none (Make rows cols seed) making = refl
making_names_none (Demo rows cols seed bound) making = refl
making_names_none (Simplify options bound file) making = absurd making
making_names_none (Layers options bound file) making = absurd making
making_names_none (Check options bound file out cert) making = absurd making
making_names_none (Faces file) making = absurd making
making_names_none (Dissolve polygons file) making = absurd making
making_names_none (Build file) making = absurd making
making_names_none (Pyramid bounds file) making = absurd making

-- what is said of the form of the words
pub makes_by : (words : List (List ℕ)) (g : Form) (s : Status) → Some g ≡ form_of words → (IsMaking g → IsMakingStatus s) → Makes words s
makes_by words g s is ends f is_form making = ends (subst IsMaking (same_Some f g (sym is_form ∙ sym is)) making)

pub makes_none : (words : List (List ℕ)) (s : Status) → None ≡ form_of words → Makes words s
makes_none words s is f is_form making = absurd (none-some f (is ∙ is_form))
