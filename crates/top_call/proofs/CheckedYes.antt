-- What a run writes of a text is found right.
use Rattle.std.proofs.Common.{◌≡◌, ◌∙◌, ℕ, ℤ, List, sym, ap, subst}
use Rattle.arc_map.specs.Map.{Map}
use Rattle.arc_map.specs.Arcs.{map_now}
use Rattle.arc_map.specs.Chains.{Chain}
use Rattle.arc_map.specs.Records.{Record}
use Rattle.topo_reader.specs.Reads.{TopologyRead}
use Rattle.cert_format.specs.Certificate.{content}
use Rattle.chain_replace.specs.Run.{IsOutcome}
use Rattle.chain_replace.proofs.SameOutcome.{outcome_is_one}
use Rattle.cert_checker.specs.declared.verdicts.Verdict.TheVariants.{Yes}
use Rattle.top_call.specs.declared.forms.Options.{Options}
use Rattle.top_call.specs.Maps.{scales_of}
use Rattle.top_call.specs.Reading.{Read}
use Rattle.top_call.specs.Answers.{IsRun, IsChecked, IsCompared, IsSimplified, IsCertified, IsJudgedFor, text_with, terms_of, version_of}
use Rattle.top_call.specs.Requests.{IsBound, AreWeights}
use Rattle.top_call.proofs.Entries.{records_are_judged_yes}
use Rattle.top_call.proofs.OneLoading.{loaded_is_one}
use Rattle.top_call.proofs.SmallRecords.{run_is_certified}

-- two runs over one text come to one outcome
pub record SameRun (t u : TopologyRead) (after other : Map) : Type 0 where
  pub topology : t ≡ u
  pub outcome : after ≡ other

pub run_is_one : (options : Options) (bound : ℤ) (text : List ℕ) (t u : TopologyRead) (held arcs : List ℕ) (after other : Map)
    (records others : List Record) → IsRun options bound text t held after records → IsRun options bound text u arcs other others
    → SameRun t u after other
run_is_one options bound text t u held arcs after other records others first second =
    let same = loaded_is_one options text t u held arcs first.loaded second.loaded in
    let by_map =
    subst (λ (v : TopologyRead). IsOutcome v.map (terms_of options bound arcs) other others) (sym same.topology) second.outcome in
    let by_held = subst (λ (ns : List ℕ). IsOutcome t.map (terms_of options bound ns) other others) (sym same.held_arcs) by_map in
    record {
      topology = same.topology;
      outcome =
          (outcome_is_one t.map (terms_of options bound held) after other records others first.outcome by_held).0;
    }

-- the certificate of a run is judged Yes, and the judged map is the outcome
pub record IsCertifiedYes (options : Options) (bound : ℤ) (text cert : List ℕ) (t : TopologyRead) (after : Map) : Type 0 where
  pub chains : List Chain
  pub judged : IsJudgedFor options bound text cert t Yes chains
  pub made : after ≡ map_now t.map chains

pub certified_yes : (options : Options) (bound : ℤ) (text cert : List ℕ) (by : IsCertified options bound text cert)
    → AreWeights options.weights → IsBound bound → IsCertifiedYes options bound text cert by.topology by.after
certified_yes options bound text cert by weights is_bound =
    let t = by.topology in
    let outcome = by.run.outcome in
    let yes =
    records_are_judged_yes t.map (terms_of options bound by.held) by.after by.records
    (version_of options) outcome.refs outcome.chains outcome in
    record {
      chains = yes.chains;
      judged = record {
        held = by.held;
        loaded = by.run.loaded;
        content = content (version_of options) bound (scales_of options.weights) by.held by.records;
        is_content =
            record {
              certificate = run_is_certified options bound text t by.held by.after by.records weights is_bound by.run;
              text =
                  sym by.written;
            };
        refs = outcome.refs;
        chains = outcome.chains;
        judged = yes.judged;
      };
      made = yes.made;
    }

-- OUT is the text of FILE with the arcs of the judged map
pub written_as_expected : (options : Options) (bound : ℤ) (read : Read) (simplified : IsSimplified options bound read.file read.out)
    (certified : IsCertified options bound read.file read.cert) (chains : List Chain)
    → certified.after ≡ map_now certified.topology.map chains → text_with read.file certified.topology
    (map_now certified.topology.map chains) ≡ read.out
written_as_expected options bound read simplified certified chains made =
    let one =
    run_is_one options bound read.file certified.topology simplified.topology certified.held simplified.held certified.after
    simplified.after certified.records simplified.records certified.run simplified.run in
    ap (text_with read.file certified.topology) (sym made ∙ one.outcome)
    ∙ ap (λ (t : TopologyRead). text_with read.file t simplified.after) one.topology ∙ sym simplified.written

pub simplified_is_checked : (options : Options) (bound : ℤ) (read : Read) → AreWeights options.weights → IsBound bound
    → IsSimplified options bound read.file read.out → IsCertified options bound read.file read.cert → IsChecked options bound read Yes
simplified_is_checked options bound read weights is_bound simplified certified =
    let yes = certified_yes options bound read.file read.cert certified weights is_bound in
    IsCompared certified.topology yes.chains yes.judged (written_as_expected options bound read simplified certified yes.chains yes.made)
