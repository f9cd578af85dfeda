-- What `simplify` and `layers` write is of one run.
use Rattle.std.proofs.Common.{◌≡◌, ◌∙◌, ℕ, ℤ, List, ap, subst}
use Rattle.grid_exact.specs.Weights.{Scales}
use Rattle.arc_map.specs.Map.{Map}
use Rattle.arc_map.specs.Records.{Record}
use Rattle.topo_reader.specs.Reads.{TopologyRead}
use Rattle.cert_format.specs.Certificate.{certificate_text, content}
use Rattle.chain_replace.specs.Run.{IsOutcome}
use Rattle.top_call.specs.declared.forms.Options.{Options}
use Rattle.top_call.specs.Maps.{IsLoaded, scales_of}
use Rattle.top_call.specs.Answers.{IsSimplified, IsCertified, text_with, version_of}

pub certified_by : (options : Options) (bound : ℤ) (text bytes : List ℕ) (t : TopologyRead) (held beside : List ℕ) (after : Map)
    (records : List Record) (w : Scales) (version : ℕ) → IsLoaded options text t held
    → IsOutcome t.map (record { held = held; bound = bound; weights = w }) after records → w ≡ scales_of options.weights
    → version ≡ version_of options → beside ≡ held → bytes ≡ certificate_text (content version bound w beside records)
    → IsCertified options bound text bytes
certified_by options bound text bytes t held beside after records w version loaded outcome is_w is_version is_held is =
    record {
      topology = t;
      held = held;
      after = after;
      records = records;
      run = record {
        loaded = loaded;
        outcome = subst (λ (v : Scales). IsOutcome t.map (record { held = held; bound = bound; weights = v }) after records) is_w outcome;
      };
      written = is
          ∙ ap (λ (n : ℕ). certificate_text (content n bound w beside records)) is_version
          ∙ ap (λ (v : Scales). certificate_text (content (version_of options) bound v beside records)) is_w
          ∙ ap (λ (arcs : List ℕ). certificate_text (content (version_of options) bound (scales_of options.weights) arcs records)) is_held;
    }

pub simplified_by : (options : Options) (bound : ℤ) (text bytes : List ℕ) (t : TopologyRead) (held : List ℕ) (after m : Map)
    (records : List Record) (w : Scales) → IsLoaded options text t held
    → IsOutcome t.map (record { held = held; bound = bound; weights = w }) after records → w ≡ scales_of options.weights → m ≡ after
    → bytes ≡ text_with text t m → IsSimplified options bound text bytes
simplified_by options bound text bytes t held after m records w loaded outcome is_w is_map is =
    record {
      topology = t;
      held = held;
      after = after;
      records = records;
      run = record {
        loaded = loaded;
        outcome = subst (λ (v : Scales). IsOutcome t.map (record { held = held; bound = bound; weights = v }) after records) is_w outcome;
      };
      written = is ∙ ap (text_with text t) is_map;
    }
