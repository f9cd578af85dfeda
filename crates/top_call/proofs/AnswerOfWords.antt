-- The words have one answer over the texts that are held.
use Rattle.std.proofs.Common.{◌≡◌, ◌∙◌, ℕ, ℤ, ◌<◌, ◌≤◌, List, [], ◌∷◌, Option, None, Some, length, sym, ap, subst, inl, inr, arith}
use Rattle.std.proofs.lemmas.Option.{none-some, same_Some}
use Rattle.arc_map.specs.Map.{Map}
use Rattle.arc_map.specs.Records.{Record}
use Rattle.arc_map.specs.Work.{AreChainsIn}
use Rattle.arc_map.specs.declared.refs.ChainRef.{ChainRef}
use Rattle.outside_io.specs.Texts.{Texts, text_of}
use Rattle.topo_reader.specs.Reads.{TopologyRead}
use Rattle.map_gen.specs.Make.{made}
use Rattle.cert_format.specs.Certificate.{certificate_text, content}
use Rattle.chain_replace.specs.Run.{IsOutcome}
use Rattle.chain_replace.proofs.SameCuts.{chains_lie_once}
use Rattle.chain_replace.proofs.SameOutcome.{outcome_is_one}
use Rattle.cert_checker.specs.declared.verdicts.Verdict.{Verdict}
use Rattle.top_call.specs.declared.forms.Options.{Options}
use Rattle.top_call.specs.declared.status.Limit.TheVariants.{Text}
use Rattle.top_call.specs.declared.status.Role.{Role}
use Rattle.top_call.specs.declared.status.Role.TheVariants.{File, Out, Cert}
use Rattle.top_call.specs.declared.status.Status.{Status}
use Rattle.top_call.specs.declared.status.Status.TheVariants.{TooLarge}
use Rattle.top_call.specs.Words.{Form, Simplify, Layers, Check, Faces, Make, Demo, Dissolve, Build, Pyramid, form_of}
use Rattle.top_call.specs.Reading.{Named, named, limit_of, IsWithin, IsPast, IsFirstPast, IsFirstUnheld, Read, read_as, AreRead, AreShort}
use Rattle.top_call.specs.Maps.{IsRefusal, scales_of}
use Rattle.top_call.specs.Built.{IsGeoRefusal, IsBuiltOf}
use Rattle.top_call.specs.Answers.{Answer, refused, done, told, plain, terms_of, version_of, text_with, faces_text, position_count}
use Rattle.top_call.specs.Answers.{demo_text, IsRun, IsSimplified, IsCertified, IsFaced, IsDemoed, IsMapAnswer, Refused, Written}
use Rattle.top_call.specs.Answers.{IsCheckAnswer, RefusedFile, Told, IsChecked, NotCertificate, IsRefuted, IsCompared, IsTextAnswer}
use Rattle.top_call.specs.Answers.{IsBorderRefusal, IsDissolved, IsRanked, IsWorkAnswer, IsFormAnswer, NotHeld, TooLong, Worked, IsAnswerBy}
use Rattle.top_call.specs.Laws.{AnswerIsOne}
use Rattle.top_call.proofs.Borders.{border_refusal_is_one, dissolved_is_one, dissolved_not_refused}
use Rattle.top_call.proofs.BuiltTexts.{built_of_is_one, geo_not_refused, geo_refusal_is_one}
use Rattle.top_call.proofs.NotRefused.{loaded_not_refused}
use Rattle.top_call.proofs.OneLoading.{loaded_is_one}
use Rattle.top_call.proofs.OneRefusal.{refusal_is_one}
use Rattle.top_call.proofs.OneTree.{text_has_one_topology}
use Rattle.top_call.proofs.OneVerdict.{verdict_is_one}
use Rattle.top_call.proofs.Promised.{within_not_past}
use Rattle.top_call.proofs.Ranked.{ranked_is_one}

-- ---- one reading

not_unheld_and_past : (texts : Texts) (names : List Named) (role : Role) → IsFirstUnheld texts names → IsFirstPast texts names role → ⊥
not_unheld_and_past texts [] role unheld past = unheld
not_unheld_and_past texts (n ∷ ns) role (inl none) (inl past) = subst (IsPast n.0) none past.1
not_unheld_and_past texts (n ∷ ns) role (inl none) (inr later) = subst (IsWithin n.0) none later.0
not_unheld_and_past texts (n ∷ ns) role (inr later) (inl past) = within_not_past n.0 (text_of texts n.1) later.0 past.1
not_unheld_and_past texts (n ∷ ns) role (inr later) (inr also) = not_unheld_and_past texts ns role later.1 also.1

past_is_one : (texts : Texts) (names : List Named) (r q : Role) → IsFirstPast texts names r → IsFirstPast texts names q → r ≡ q
past_is_one texts [] r q first second = absurd first
past_is_one texts (n ∷ ns) r q (inl first) (inl second) = first.0 ∙ sym second.0
past_is_one texts (n ∷ ns) r q (inl first) (inr second) = absurd (within_not_past n.0 (text_of texts n.1) second.0 first.1)
past_is_one texts (n ∷ ns) r q (inr first) (inl second) = absurd (within_not_past n.0 (text_of texts n.1) first.0 second.1)
past_is_one texts (n ∷ ns) r q (inr first) (inr second) = past_is_one texts ns r q first.1 second.1

read_not_unheld : (texts : Texts) (names : List Named) (read : Read) → AreRead texts names read → IsFirstUnheld texts names → ⊥
read_not_unheld texts [] read are unheld = unheld
read_not_unheld texts (n ∷ ns) read are (inl none) = none-some (read_as read n.0) (sym none ∙ are.0)
read_not_unheld texts (n ∷ ns) read are (inr later) = read_not_unheld texts ns read are.1 later.1

short_as : (read : Read) (role : Role) → AreShort read → length (read_as read role) ≤ limit_of role
short_as read File short = short.file
short_as read Out short = short.out
short_as read Cert short = short.cert

read_not_past : (texts : Texts) (names : List Named) (read : Read) (role : Role) → AreRead texts names read → AreShort read
    → IsFirstPast texts names role → ⊥
read_not_past texts [] read role are short past = past
read_not_past texts (n ∷ ns) read role are short (inl past) =
    let there : limit_of n.0 < length (read_as read n.0) = subst (IsPast n.0) are.0 past.1 in
    omega (arith, there, short_as read n.0 short)
read_not_past texts (n ∷ ns) read role are short (inr later) = read_not_past texts ns read role are.1 short later.1

-- ---- one work

-- two runs over one text
record OneRun (t u : TopologyRead) (held arcs : List ℕ) (after other : Map) (records others : List Record) : Type 0 where
  topology : t ≡ u
  held_arcs : held ≡ arcs
  outcome : after ≡ other
  records_are : records ≡ others

one_run : (options : Options) (bound : ℤ) (text : List ℕ) (t u : TopologyRead) (held arcs : List ℕ) (after other : Map)
    (records others : List Record) → IsRun options bound text t held after records → IsRun options bound text u arcs other others
    → OneRun t u held arcs after other records others
one_run options bound text t u held arcs after other records others first second =
    let same = loaded_is_one options text t u held arcs first.loaded second.loaded in
    let by_map =
    subst (λ (v : TopologyRead). IsOutcome v.map (terms_of options bound arcs) other others) (sym same.topology) second.outcome in
    let by_held = subst (λ (ns : List ℕ). IsOutcome t.map (terms_of options bound ns) other others) (sym same.held_arcs) by_map in
    let one = outcome_is_one t.map (terms_of options bound held) after other records others first.outcome by_held in
    record { topology = same.topology; held_arcs = same.held_arcs; outcome = one.0; records_are = one.1 }

simplified_is_one : (options : Options) (bound : ℤ) (text x y : List ℕ) → IsSimplified options bound text x
    → IsSimplified options bound text y → x ≡ y
simplified_is_one options bound text x y first second =
    let one =
    one_run options bound text first.topology second.topology first.held second.held first.after second.after first.records
    second.records first.run second.run in
    first.written ∙ ap (λ (t : TopologyRead). text_with text t first.after) one.topology ∙ ap (text_with text second.topology) one.outcome
    ∙ sym second.written

certified_is_one : (options : Options) (bound : ℤ) (text x y : List ℕ) → IsCertified options bound text x → IsCertified options bound text y
    → x ≡ y
certified_is_one options bound text x y first second =
    let one =
    one_run options bound text first.topology second.topology first.held second.held first.after second.after first.records
    second.records first.run second.run in
    first.written
    ∙ ap (λ (held : List ℕ). certificate_text (content (version_of options) bound (scales_of options.weights) held first.records))
    one.held_arcs
    ∙ ap (λ (records : List Record). certificate_text (content (version_of options) bound (scales_of options.weights) second.held records))
    one.records_are
    ∙ sym second.written

faced_is_one : (text x y : List ℕ) → IsFaced text x → IsFaced text y → x ≡ y
faced_is_one text x y first second =
    let same = text_has_one_topology text first.topology second.topology first.loaded.topology second.loaded.topology in
    first.written ∙ ap (λ (t : TopologyRead). faces_text t.map) same ∙ sym second.written

demoed_is_one : (rows cols seed : ℕ) (bound : ℤ) (x y : List ℕ) → IsDemoed rows cols seed bound x → IsDemoed rows cols seed bound y → x ≡ y
demoed_is_one rows cols seed bound x y first second =
    let one =
    one_run plain bound (made rows cols seed) first.topology second.topology first.held second.held first.after second.after
    first.records second.records first.run second.run in
    let here = first.run.outcome in
    let there = second.run.outcome in
    let chains = subst (λ (t : TopologyRead). AreChainsIn t.map there.refs) (sym one.topology) there.chains in
    let refs = chains_lie_once first.topology.map here.refs there.refs here.chains chains in
    first.written
    ∙ ap (λ (m : Map). demo_text m (length here.refs) (position_count first.topology.map)) one.outcome
    ∙ ap (λ (rs : List ChainRef). demo_text second.after (length rs) (position_count first.topology.map)) refs
    ∙ ap (λ (t : TopologyRead). demo_text second.after (length there.refs) (position_count t.map)) one.topology
    ∙ sym second.written

-- the refusal of a text is one, and so is what is written of it; and a text of which something is written is not refused
text_answer_is_one : (R : Status → Type 0) (W : List ℕ → Type 0) (a b : Answer) → ((s u : Status) → R s → R u → s ≡ u)
    → ((x y : List ℕ) → W x → W y → x ≡ y) → ((x : List ℕ) (s : Status) → W x → R s → ⊥) → IsTextAnswer R W a → IsTextAnswer R W b → a ≡ b
text_answer_is_one R W a b same one never (Refused s why is) (Refused u also too) = is ∙ ap refused (same s u why also) ∙ sym too
text_answer_is_one R W a b same one never (Refused s why is) (Written y written too) = absurd (never y s written why)
text_answer_is_one R W a b same one never (Written x written is) (Refused u also too) = absurd (never x u written also)
text_answer_is_one R W a b same one never (Written x written is) (Written y also too) = is ∙ ap done (one x y written also) ∙ sym too

map_answer_is_one : (options : Options) (text : List ℕ) (W : List ℕ → Type 0) (a b : Answer) → ((x y : List ℕ) → W x → W y → x ≡ y)
    → ((x : List ℕ) (s : Status) → W x → IsRefusal options text s → ⊥) → IsMapAnswer options text W a → IsMapAnswer options text W b → a ≡ b
map_answer_is_one options text W a b one never first second =
    text_answer_is_one (IsRefusal options text) W a b (refusal_is_one options text) one never first second

-- a verdict is told of a text that loads
checked_not_refused : (options : Options) (bound : ℤ) (read : Read) (v : Verdict) (s : Status) → IsChecked options bound read v
    → IsRefusal options read.file s → ⊥
checked_not_refused options bound read v s (NotCertificate t held loaded none is) why =
    loaded_not_refused options read.file t held s loaded why
checked_not_refused options bound read v s (IsRefuted t reason after judged is) why =
    loaded_not_refused options read.file t judged.held s judged.loaded why
checked_not_refused options bound read v s (IsCompared t after judged found) why =
    loaded_not_refused options read.file t judged.held s judged.loaded why

check_answer_is_one : (options : Options) (bound : ℤ) (read : Read) (a b : Answer) → IsCheckAnswer options bound read a
    → IsCheckAnswer options bound read b → a ≡ b
check_answer_is_one options bound read a b (RefusedFile s why is) (RefusedFile u also too) =
    is ∙ ap refused (refusal_is_one options read.file s u why also) ∙ sym too
check_answer_is_one options bound read a b (RefusedFile s why is) (Told w checked too) =
    absurd (checked_not_refused options bound read w s checked why)
check_answer_is_one options bound read a b (Told v checked is) (RefusedFile u also too) =
    absurd (checked_not_refused options bound read v u checked also)
check_answer_is_one options bound read a b (Told v checked is) (Told w also too) =
    is ∙ ap told (verdict_is_one options bound read v w checked also) ∙ sym too

same_reads : (r s : Read) → r.file ≡ s.file → r.out ≡ s.out → r.cert ≡ s.cert → r ≡ s
same_reads r s file out cert =
    ap (λ (xs : List ℕ). record { file = xs; out = r.out; cert = r.cert }) file
    ∙ ap (λ (xs : List ℕ). record { file = s.file; out = xs; cert = r.cert }) out
    ∙ ap (λ (xs : List ℕ). record { file = s.file; out = s.out; cert = xs }) cert

-- the texts of a name are one
same_read : (text : Option (List ℕ)) (xs ys : List ℕ) → text ≡ Some xs → text ≡ Some ys → ys ≡ xs
same_read text xs ys first second = same_Some ys xs (sym second ∙ first)

work_answer_is_one : (f : Form) (texts : Texts) (read other : Read) (a b : Answer) → AreRead texts (named f) read
    → AreRead texts (named f) other → IsWorkAnswer f read a → IsWorkAnswer f other b → a ≡ b
work_answer_is_one (Simplify options bound file) texts read other a b are also first second =
    let same = same_read (text_of texts file) read.file other.file are.0 also.0 in
    map_answer_is_one options read.file (IsSimplified options bound read.file) a b (simplified_is_one options bound read.file)
    (λ x s is. loaded_not_refused options read.file is.topology is.held s is.run.loaded) first
    (subst (λ (xs : List ℕ). IsMapAnswer options xs (IsSimplified options bound xs) b) same second)
work_answer_is_one (Layers options bound file) texts read other a b are also first second =
    let same = same_read (text_of texts file) read.file other.file are.0 also.0 in
    map_answer_is_one options read.file (IsCertified options bound read.file) a b (certified_is_one options bound read.file)
    (λ x s is. loaded_not_refused options read.file is.topology is.held s is.run.loaded) first
    (subst (λ (xs : List ℕ). IsMapAnswer options xs (IsCertified options bound xs) b) same second)
work_answer_is_one (Check options bound file out cert) texts read other a b are also first second =
    let of_file = same_read (text_of texts file) read.file other.file are.0 also.0 in
    let of_out = same_read (text_of texts out) read.out other.out are.1.0 also.1.0 in
    let of_cert = same_read (text_of texts cert) read.cert other.cert are.1.1.0 also.1.1.0 in
    check_answer_is_one options bound read a b first (subst (λ (r : Read). IsCheckAnswer options bound r b)
    (same_reads other read of_file of_out of_cert) second)
work_answer_is_one (Faces file) texts read other a b are also first second =
    let same = same_read (text_of texts file) read.file other.file are.0 also.0 in
    map_answer_is_one plain read.file (IsFaced read.file) a b (faced_is_one read.file)
    (λ x s is. loaded_not_refused plain read.file is.topology is.held s is.loaded) first
    (subst (λ (xs : List ℕ). IsMapAnswer plain xs (IsFaced xs) b) same second)
work_answer_is_one (Make rows cols seed) texts read other a b are also first second = first ∙ sym second
work_answer_is_one (Demo rows cols seed bound) texts read other a b are also first second =
    first.2 ∙ ap done (demoed_is_one rows cols seed bound first.0 second.0 first.1 second.1) ∙ sym second.2
work_answer_is_one (Dissolve polygons file) texts read other a b are also first second =
    let same = same_read (text_of texts file) read.file other.file are.0 also.0 in
    text_answer_is_one (IsBorderRefusal polygons read.file) (IsDissolved polygons read.file) a b (border_refusal_is_one polygons read.file)
    (dissolved_is_one polygons read.file) (dissolved_not_refused polygons read.file) first
    (subst (λ (xs : List ℕ). IsTextAnswer (IsBorderRefusal polygons xs) (IsDissolved polygons xs) b) same second)
work_answer_is_one (Build file) texts read other a b are also first second =
    let same = same_read (text_of texts file) read.file other.file are.0 also.0 in
    text_answer_is_one (IsGeoRefusal read.file) (IsBuiltOf read.file) a b (geo_refusal_is_one read.file) (built_of_is_one read.file)
    (λ x s is. geo_not_refused read.file is.tree is.geo s is.has) first
    (subst (λ (xs : List ℕ). IsTextAnswer (IsGeoRefusal xs) (IsBuiltOf xs) b) same second)
work_answer_is_one (Pyramid bounds file) texts read other a b are also first second =
    let same = same_read (text_of texts file) read.file other.file are.0 also.0 in
    map_answer_is_one plain read.file (IsRanked bounds read.file) a b (ranked_is_one bounds read.file)
    (λ x s is. loaded_not_refused plain read.file is.topology is.held s is.loaded) first
    (subst (λ (xs : List ℕ). IsMapAnswer plain xs (IsRanked bounds xs) b) same second)

-- ---- the whole

pub form_answer_is_one : (f : Form) (texts : Texts) (a b : Answer) → IsFormAnswer f texts a → IsFormAnswer f texts b → a ≡ b
form_answer_is_one f texts a b (NotHeld none is) (NotHeld also too) = is ∙ sym too
form_answer_is_one f texts a b (NotHeld none is) (TooLong role past too) = absurd (not_unheld_and_past texts (named f) role none past)
form_answer_is_one f texts a b (NotHeld none is) (Worked read are short work) = absurd (read_not_unheld texts (named f) read are none)
form_answer_is_one f texts a b (TooLong role past is) (NotHeld none too) = absurd (not_unheld_and_past texts (named f) role none past)
form_answer_is_one f texts a b (TooLong role past is) (TooLong other also too) =
    is ∙ ap (λ (r : Role). refused (TooLarge (Text r))) (past_is_one texts (named f) role other past also) ∙ sym too
form_answer_is_one f texts a b (TooLong role past is) (Worked read are short work) =
    absurd (read_not_past texts (named f) read role are short past)
form_answer_is_one f texts a b (Worked read are short work) (NotHeld none too) = absurd (read_not_unheld texts (named f) read are none)
form_answer_is_one f texts a b (Worked read are short work) (TooLong role past too) =
    absurd (read_not_past texts (named f) read role are short past)
form_answer_is_one f texts a b (Worked read are short work) (Worked other also few again) =
    work_answer_is_one f texts read other a b are also work again

answer_by_is_one : (form : Option Form) (texts : Texts) (a b : Answer) → IsAnswerBy form texts a → IsAnswerBy form texts b → a ≡ b
answer_by_is_one None texts a b first second = first ∙ sym second
answer_by_is_one (Some f) texts a b first second = form_answer_is_one f texts a b first second

pub answer_is_one : AnswerIsOne
answer_is_one words texts a b first second = answer_by_is_one (form_of words) texts a b first second
