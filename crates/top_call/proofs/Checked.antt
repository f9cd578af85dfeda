-- What the judge says of a certificate is said of the text that was loaded.
use Rattle.std.proofs.Common.{◌≡◌, ◌∙◌, ℕ, ℤ, List, ap, refl, subst}
use Rattle.std.specs.Prelude.{◌≢◌}
use Rattle.grid_exact.specs.Weights.{Scales}
use Rattle.arc_map.specs.Map.{Map}
use Rattle.arc_map.specs.Arcs.{map_now}
use Rattle.arc_map.specs.Chains.{Chain}
use Rattle.arc_map.specs.Work.{Work, work_of}
use Rattle.arrangement_check.specs.Partly.{Holding}
use Rattle.topo_reader.specs.Reads.{TopologyRead}
use Rattle.cert_format.specs.Certificate.{Content, IsCertificate, certificate_text}
use Rattle.cert_checker.specs.Judged.{demand, IsJudged}
use Rattle.cert_checker.specs.Judging.{Judging, IsFreshFor, IsAfter}
use Rattle.cert_checker.specs.declared.verdicts.Reason.{Reason}
use Rattle.cert_checker.specs.declared.verdicts.Reason.TheVariants as reasons
use Rattle.cert_checker.specs.declared.verdicts.Verdict.{Verdict}
use Rattle.cert_checker.specs.declared.verdicts.Verdict.TheVariants.{Yes, No}
use Rattle.top_call.specs.declared.forms.Options.{Options}
use Rattle.top_call.specs.Maps.{IsLoaded, scales_of}
use Rattle.top_call.specs.Reading.{Read}
use Rattle.top_call.specs.Answers.{IsJudgedFor, IsChecked, NotCertificate, IsRefuted, IsCompared, IsComparison, text_with, version_of}

-- a fresh state holds the map as read
fresh_work : (p : Holding) (s : Judging) → IsFreshFor p s → s.work ≡ work_of p.map s.work.refs
fresh_work p s fresh = fresh.fresh.as_read ∙ ap (λ (m : Map). work_of m s.work.refs) fresh.map_read

pub judged_for : (options : Options) (bound : ℤ) (text cert : List ℕ) (t : TopologyRead) (held : List ℕ) (s : Judging) (version : ℕ)
    (w : Scales) (c : Content) (verdict : Verdict) (after : List Chain) → IsLoaded options text t held
    → IsFreshFor (record { map = t.map; held = held }) s → version ≡ version_of options → w ≡ scales_of options.weights → IsCertificate c
    → certificate_text c ≡ cert → IsJudged (demand version bound w) s.held s.work c verdict after
    → IsJudgedFor options bound text cert t verdict after
judged_for options bound text cert t held s version w c verdict after loaded fresh is_version is_w is_certificate is_text judged =
    let by_version = subst (λ (n : ℕ). IsJudged (demand n bound w) s.held s.work c verdict after) is_version judged in
    let by_weights = subst (λ (v : Scales). IsJudged (demand (version_of options) bound v) s.held s.work c verdict after) is_w by_version in
    let by_held =
    subst (λ (arcs : List ℕ). IsJudged (demand (version_of options) bound (scales_of options.weights)) arcs s.work c verdict after)
    fresh.held_arcs by_weights in
    record {
      held = held;
      loaded = loaded;
      content = c;
      is_content = record { certificate = is_certificate; text = is_text };
      refs = s.work.refs;
      chains = fresh.chains;
      judged =
          subst (λ (work : Work). IsJudged (demand (version_of options) bound (scales_of options.weights)) held work c verdict after)
          (fresh_work (record { map = t.map; held = held }) s fresh) by_held;
    }

pub refuted : (options : Options) (bound : ℤ) (read : Read) (t : TopologyRead) (verdict : Verdict) (reason : Reason) (after : List Chain)
    → verdict ≡ No reason → IsJudgedFor options bound read.file read.cert t verdict after → IsChecked options bound read verdict
refuted options bound read t verdict reason after is judged =
    IsRefuted t reason after (subst (λ (v : Verdict). IsJudgedFor options bound read.file read.cert t v after) is judged) is

pub not_certificate : (options : Options) (bound : ℤ) (read : Read) (t : TopologyRead) (held text cert : List ℕ)
    → IsLoaded options text t held → text ≡ read.file → ((c : Content) → IsCertificate c → certificate_text c ≢ cert) → cert ≡ read.cert
    → IsChecked options bound read (No reasons.Form)
not_certificate options bound read t held text cert loaded is_file none is_cert =
    NotCertificate t held (subst (λ (xs : List ℕ). IsLoaded options xs t held) is_file loaded)
    (subst (λ (xs : List ℕ). (c : Content) → IsCertificate c → certificate_text c ≢ xs) is_cert none) refl

-- what is no refusal is a Yes
pub yes_where_no_no : (v : Verdict) → ((r : Reason) → v ≡ No r → ⊥) → v ≡ Yes
yes_where_no_no Yes not = refl
yes_where_no_no (No r) not = absurd (not r refl)

-- the judged map is that of the state after the verdict, and the text with its arcs is what was compared
pub compared_with : (options : Options) (bound : ℤ) (read : Read) (t : TopologyRead) (held : List ℕ) (s u : Judging)
    (verdict found : Verdict) (m : Map) (file expected out : List ℕ) → IsFreshFor (record { map = t.map; held = held }) s
    → IsAfter verdict s u → verdict ≡ Yes → IsJudgedFor options bound read.file read.cert t verdict u.work.chains
    → m ≡ map_now u.work.read u.work.chains → file ≡ read.file → expected ≡ text_with file t m → out ≡ read.out
    → IsComparison expected out found → IsChecked options bound read found
compared_with options bound read t held s u verdict found m file expected out fresh after is_yes judged is_map is_file is is_out compared =
    let same : m ≡ map_now t.map u.work.chains = is_map ∙ ap (λ (n : Map). map_now n u.work.chains) (after.map_read ∙ fresh.map_read) in
    let text : expected ≡ text_with read.file t (map_now t.map u.work.chains) = is ∙ ap (λ (xs : List ℕ). text_with xs t m) is_file
    ∙ ap (text_with read.file t) same in
    let behind = subst (λ (xs : List ℕ). IsComparison expected xs found) is_out compared in
    IsCompared t u.work.chains (subst (λ (v : Verdict). IsJudgedFor options bound read.file read.cert t v u.work.chains) is_yes judged)
    (subst (λ (xs : List ℕ). IsComparison xs read.out found) text behind)
