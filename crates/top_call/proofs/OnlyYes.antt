-- A certificate has one verdict for a text, and what a run writes has Yes and no other.
use Rattle.std.proofs.Common.{◌≡◌, ◌∙◌, ℕ, ℤ, List, refl, sym, ap, subst}
use Rattle.std.specs.Prelude.{slice_get}
use Rattle.arc_map.specs.Arcs.{map_now}
use Rattle.arc_map.specs.Chains.{Chain}
use Rattle.arc_map.specs.Work.{work_of, AreChainsIn}
use Rattle.arc_map.specs.declared.refs.ChainRef.{ChainRef}
use Rattle.topo_reader.specs.Reads.{TopologyRead}
use Rattle.cert_format.specs.Certificate.{Content, content}
use Rattle.cert_format.proofs.Contents.{have_one_content}
use Rattle.chain_replace.proofs.SameCuts.{chains_lie_once}
use Rattle.cert_checker.specs.Judged.{demand, IsJudged}
use Rattle.cert_checker.specs.declared.verdicts.Reason.TheVariants as reasons
use Rattle.cert_checker.specs.declared.verdicts.Verdict.{Verdict}
use Rattle.cert_checker.specs.declared.verdicts.Verdict.TheVariants.{Yes, No}
use Rattle.cert_checker.proofs.Uniqueness.{judged_once}
use Rattle.top_call.specs.declared.forms.Options.{Options}
use Rattle.top_call.specs.Maps.{scales_of}
use Rattle.top_call.specs.Reading.{Read}
use Rattle.top_call.specs.Answers.{IsJudgedFor, IsChecked, NotCertificate, IsRefuted, IsCompared, IsComparison, IsSimplified, IsCertified}
use Rattle.top_call.specs.Answers.{text_with, version_of}
use Rattle.top_call.specs.Laws.{SimplifiedChecksYes}
use Rattle.top_call.specs.Requests.{IsBound, AreWeights}
use Rattle.top_call.proofs.CheckedYes.{certified_yes, written_as_expected, simplified_is_checked}
use Rattle.top_call.proofs.OneLoading.{loaded_is_one}
use Rattle.top_call.proofs.SmallRecords.{run_is_certified}

-- ---- one verdict

-- two judgements of one certificate
pub record SameJudgement (t u : TopologyRead) (v w : Verdict) (here there : List Chain) : Type 0 where
  pub topology : t ≡ u
  pub verdict : v ≡ w
  pub chains : here ≡ there

pub judged_for_once : (options : Options) (bound : ℤ) (text cert : List ℕ) (t u : TopologyRead) (v w : Verdict) (here there : List Chain)
    → IsJudgedFor options bound text cert t v here → IsJudgedFor options bound text cert u w there → SameJudgement t u v w here there
judged_for_once options bound text cert t u v w here there first second =
    let d = demand (version_of options) bound (scales_of options.weights) in
    let same = loaded_is_one options text t u first.held second.held first.loaded second.loaded in
    let says =
    have_one_content first.content second.content first.is_content.certificate second.is_content.certificate
    (first.is_content.text ∙ sym second.is_content.text) in
    let chains = subst (λ (x : TopologyRead). AreChainsIn x.map second.refs) (sym same.topology) second.chains in
    let refs = chains_lie_once t.map first.refs second.refs first.chains chains in
    let by_map =
    subst (λ (x : TopologyRead). IsJudged d second.held (work_of x.map second.refs) second.content w there)
    (sym same.topology) second.judged in
    let by_held =
    subst (λ (arcs : List ℕ). IsJudged d arcs (work_of t.map second.refs) second.content w there) (sym same.held_arcs) by_map in
    let by_refs = subst (λ (rs : List ChainRef). IsJudged d first.held (work_of t.map rs) second.content w there) (sym refs) by_held in
    let by_content = subst (λ (c : Content). IsJudged d first.held (work_of t.map first.refs) c w there) (sym says) by_refs in
    let once = judged_once d first.held (work_of t.map first.refs) first.content v w here there first.judged by_content in
    record { topology = same.topology; verdict = once.0; chains = once.1 }

-- ---- equal texts have no first difference

pub compared_equal : (expected out : List ℕ) (v : Verdict) → expected ≡ out → IsComparison expected out v → v ≡ Yes
compared_equal expected out Yes same found = refl
compared_equal expected out (No (reasons.Text at)) same found = absurd (found.differ (ap (λ (xs : List ℕ). slice_get xs at) same))
compared_equal expected out (No reasons.Form) same found = absurd found
compared_equal expected out (No reasons.Version) same found = absurd found
compared_equal expected out (No reasons.Bound) same found = absurd found
compared_equal expected out (No reasons.Weights) same found = absurd found
compared_equal expected out (No (reasons.Held k)) same found = absurd found
compared_equal expected out (No (reasons.Chains k)) same found = absurd found
compared_equal expected out (No (reasons.Kept n)) same found = absurd found
compared_equal expected out (No (reasons.Path n i j)) same found = absurd found
compared_equal expected out (No (reasons.Ends n)) same found = absurd found
compared_equal expected out (No (reasons.Layers n i j)) same found = absurd found

-- ---- no other verdict

only_yes : (options : Options) (bound : ℤ) (read : Read) (v : Verdict) → AreWeights options.weights → IsBound bound
    → IsSimplified options bound read.file read.out → IsCertified options bound read.file read.cert → IsChecked options bound read v
    → v ≡ Yes
only_yes options bound read v weights is_bound simplified certified (NotCertificate t held loaded none is) =
    let by = certified in
    absurd (none (content (version_of options) bound (scales_of options.weights) by.held by.records)
    (run_is_certified options bound read.file by.topology by.held by.after by.records weights is_bound by.run) (sym by.written))
only_yes options bound read v weights is_bound simplified certified (IsRefuted t reason after judged is) =
    let yes = certified_yes options bound read.file read.cert certified weights is_bound in
    let same = judged_for_once options bound read.file read.cert t certified.topology (No reason) Yes after yes.chains judged yes.judged in
    is ∙ same.verdict
only_yes options bound read v weights is_bound simplified certified (IsCompared t after judged compared) =
    let yes = certified_yes options bound read.file read.cert certified weights is_bound in
    let same = judged_for_once options bound read.file read.cert t certified.topology Yes Yes after yes.chains judged yes.judged in
    let expected : text_with read.file t (map_now t.map after) ≡ read.out =
    ap (λ (cs : List Chain). text_with read.file t (map_now t.map cs)) same.chains
    ∙ ap (λ (x : TopologyRead). text_with read.file x (map_now x.map yes.chains)) same.topology
    ∙ written_as_expected options bound read simplified certified yes.chains yes.made in
    compared_equal (text_with read.file t (map_now t.map after)) read.out v expected compared

pub simplified_checks_yes : SimplifiedChecksYes
simplified_checks_yes options bound read v weights is_bound simplified certified =
    let checked = simplified_is_checked options bound read weights is_bound simplified certified in
    (only_yes options bound read v weights is_bound simplified certified, λ yes. subst (IsChecked options bound read) (sym yes) checked)
