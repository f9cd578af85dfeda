-- The numbers in the records of a run are below 2^32, so what is said of the run is a certificate.
use Rattle.std.proofs.Common.{◌≡◌, ◌∙◌, ℕ, suc, ℤ, ◌+◌, ◌-◌, ◌<◌, ◌≤◌, ◌^◌, List, [], ◌∷◌, All, inl, inr, map, length, drop, refl, sym, ap}
use Rattle.std.proofs.Common.{subst, arith}
use Rattle.std.proofs.lemmas.List.{get_or_default}
use Rattle.std.proofs.lemmas.List.Elements.{All-nil, All-cons, All-head, All-tail}
use Rattle.std.proofs.lemmas.List.FromFn.{length-map-range_with_len}
use Rattle.std.proofs.lemmas.List.Sums.{get_or-le-sum_by}
use Rattle.grid_exact.specs.Paths.{LeadsTo, IsPath, AreLayers}
use Rattle.grid_exact.proofs.Certificates.{LeadsTo-below}
use Rattle.arc_map.specs.Map.{Map, IsMap}
use Rattle.arc_map.specs.Arranged.{arc_at}
use Rattle.arc_map.specs.Chains.{Chain, chain_at}
use Rattle.arc_map.specs.Paths.{vertices_at}
use Rattle.arc_map.specs.Records.{Record}
use Rattle.arc_map.specs.Work.{Work, work_of, thinned_work, chain_in, vertex_in, LiesInArc}
use Rattle.arc_map.specs.declared.refs.ChainRef.{ChainRef}
use Rattle.cert_format.specs.Certificate.{IsSmall, IsRecord, IsCertificate, content}
use Rattle.chain_replace.specs.Run.{Terms, IsAllowedIn, last_of, IsRecordOf, AreReplaced}
use Rattle.chain_replace.proofs.BestPaths.{steps_left}
use Rattle.topo_reader.specs.Reads.{TopologyRead}
use Rattle.top_call.specs.declared.forms.Options.{Options}
use Rattle.top_call.specs.Answers.{IsRun, terms_of, version_of}
use Rattle.top_call.specs.Maps.{scales_of}
use Rattle.top_call.specs.Requests.{IsBound, AreWeights}
use Rattle.top_call.proofs.Entries.{AreAsRead, left_as_read, later_as_read}
use Rattle.top_call.proofs.ReadMaps.{read_map_is_map}
use Rattle.top_call.proofs.WithinLimits.{held_are_arcs, run_keeps_limits}

-- ---- paths and layers

way_is_small : (Pair : ℕ → ℕ → Type 0) (m i : ℕ) (rest : List ℕ) → m < 2 ^ 32 → LeadsTo Pair m i rest → All IsSmall (i ∷ rest)
way_is_small Pair m i [] small leads = All-cons IsSmall i [] (omega (arith, small, leads)) (All-nil IsSmall)
way_is_small Pair m i (next ∷ rest) small leads =
    let below = LeadsTo-below Pair m next rest leads.2 in
    let up = leads.0 in
    All-cons IsSmall i (next ∷ rest) (omega (arith, small, below, up)) (way_is_small Pair m next rest small leads.2)

path_is_small : (Pair : ℕ → ℕ → Type 0) (m : ℕ) (path : List ℕ) → m < 2 ^ 32 → IsPath Pair m path → All IsSmall path
path_is_small Pair m [] small none = absurd none
path_is_small Pair m (start ∷ rest) small path =
    way_is_small Pair m start rest small (subst (λ (i : ℕ). LeadsTo Pair m i rest) (sym path.0) path.1)

layers_are_small : (Pair : ℕ → ℕ → Type 0) (m : ℕ) (layers : List ℕ) → m < 2 ^ 32 → AreLayers Pair m layers → All IsSmall layers
layers_are_small Pair m layers small are k d within =
    let least = are.each k (omega (arith, within, are.count)) in
    let few = steps_left Pair m k least.some.0 least.some.1 in
    omega (arith, small, few, least.some.2, get_or_default layers k d 0 within)

-- ---- one record

record_is_small : (t : Terms) (m : Map) (w : Work) (k : ℕ) (r : ChainRef) (one : Record) → IsMap m → LiesInArc m r
    → chain_at w.chains k ≡ chain_in m r → IsRecordOf t w k one → IsRecord one
record_is_small t m w k r one is_map lies read is =
    let arc : one.arc ≡ r.arc = is.arc ∙ ap (λ (c : Chain). c.first.arc) read in
    let start : one.«from» ≡ r.«from» = is.«from» ∙ ap (λ (c : Chain). c.first.at) read in
    let long : length (arc_at m r.arc) ≤ 2 ^ 20 = omega (arith, get_or-le-sum_by length m.arcs r.arc [] lies.arc, is_map.few_positions) in
    let size : last_of w k ≡ r.to - r.«from» = ap (λ (c : Chain). length c.rest) read
    ∙ length-map-range_with_len (vertex_in m r.arc) (r.«from» + 1) (r.to - r.«from») in
    let small : last_of w k < 2 ^ 32 = omega (arith, size, lies.within, long) in
    record {
      arc = omega (arith, arc, lies.arc, is_map.few_arcs);
      «from» = omega (arith, start, lies.edge, lies.within, long);
      kept = path_is_small (IsAllowedIn t w k) (last_of w k) one.kept small is.best.leads;
      layers = layers_are_small (IsAllowedIn t w k) (last_of w k) one.layers small is.layers;
    }

-- ---- all records

records_are_small : (t : Terms) (m : Map) (w after : Work) (k : ℕ) (refs : List ChainRef) (records : List Record) → IsMap m
    → All (LiesInArc m) refs → AreAsRead m w.chains k refs → AreReplaced t w k (length refs) records after → All IsRecord records
records_are_small t m w after k [] records is_map lie read run = subst (All IsRecord) (sym run.0) (All-nil IsRecord)
records_are_small t m w after k (r ∷ rs) records is_map lie read (inl run) =
    records_are_small t m w after (suc k) rs records is_map (All-tail (LiesInArc m) r rs lie) read.1 run.1
records_are_small t m w after k (r ∷ rs) records is_map lie read (inr run) =
    let one = run.1 in
    let left = later_as_read m w.chains k (suc k) (vertices_at (chain_at w.chains k) (drop 1 one.kept)) rs (omega arith) read.1 in
    let here = record_is_small t m w k r one is_map (All-head (LiesInArc m) r rs lie) read.0 run.4 in
    let later =
    records_are_small t m (thinned_work w k one.kept) after (suc k) rs run.2 is_map (All-tail (LiesInArc m) r rs lie) left run.5 in
    subst (All IsRecord) (sym run.3) (All-cons IsRecord one run.2 here later)

pub run_is_certified : (options : Options) (bound : ℤ) (text : List ℕ) (t : TopologyRead) (held : List ℕ) (after : Map)
    (records : List Record) → AreWeights options.weights → IsBound bound → IsRun options bound text t held after records
    → IsCertificate (content (version_of options) bound (scales_of options.weights) held records)
run_is_certified options bound text t held after records weights is_bound run =
    let is_map = read_map_is_map text t run.loaded.topology in
    let outcome = run.outcome in
    record {
      limits = run_keeps_limits options bound text t held after records weights is_bound run;
      held = λ k d within. omega (arith, held_are_arcs options.hold t.map held run.loaded.beside k d within, is_map.few_arcs);
      entries =
          records_are_small (terms_of options bound held) t.map
          (work_of t.map outcome.refs) outcome.last 0 outcome.refs records is_map outcome.chains.lie
          (left_as_read t.map (map (chain_in t.map) outcome.refs) 0 outcome.refs refl) outcome.replaced;
    }
