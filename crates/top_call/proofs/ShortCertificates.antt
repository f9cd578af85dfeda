-- The certificate of a run is at most 2^26 bytes.
use Rattle.std.proofs.Common.{◌≡◌, ◌∙◌, ℕ, suc, ℤ, ◌+◌, ◌*◌, ◌<◌, ◌≤◌, ◌^◌, Bool, true, false, List, [], ◌∷◌, All, inl, inr, map, length}
use Rattle.std.proofs.Common.{drop, sum_by, refl, sym, ap, subst, arith}
use Rattle.std.specs.List.{AllByRecursion}
use Rattle.std.proofs.lemmas.List.{get_or_default, length-append}
use Rattle.std.proofs.lemmas.List.Elements.{All-nil, All-cons, All-head, All-tail}
use Rattle.std.proofs.lemmas.List.Sums.{get_or-le-sum_by, sum_by-cons}
use Rattle.grid_exact.specs.Paths.{LeadsTo, IsPath, AreLayers}
use Rattle.grid_exact.proofs.Certificates.{LeadsTo-below}
use Rattle.arc_map.specs.Map.{Map, IsMap}
use Rattle.arc_map.specs.Arranged.{arc_at}
use Rattle.arc_map.specs.Chains.{Chain, chain_at}
use Rattle.arc_map.specs.Paths.{vertices_at}
use Rattle.arc_map.specs.Records.{Record}
use Rattle.arc_map.specs.Work.{Work, work_of, thinned_work, chain_in, LiesInArc}
use Rattle.arc_map.specs.declared.refs.ChainRef.{ChainRef}
use Rattle.arc_map.proofs.Cutting.{IsRun, runs_of_arcs}
use Rattle.arc_map.proofs.Rising.{rising-length}
use Rattle.cert_format.specs.Certificate.{further, record_text, content}
use Rattle.chain_replace.specs.Run.{Terms, IsAllowedIn, last_of, IsRecordOf, AreReplaced, IsOutcome}
use Rattle.chain_replace.proofs.BestPaths.{steps_left}
use Rattle.top_call.specs.declared.forms.Options.{Options}
use Rattle.top_call.specs.Answers.{IsCertified, terms_of, version_of}
use Rattle.top_call.specs.Maps.{AreHeldBeside, scales_of}
use Rattle.top_call.specs.Requests.{IsBound, AreWeights}
use Rattle.top_call.proofs.CertificateLengths.{IsOfEdges, record_is_short, certificate_fits}
use Rattle.top_call.proofs.ChainEdges.{edge_count, edges_of_arcs}
use Rattle.top_call.proofs.Entries.{AreAsRead, left_as_read, later_as_read}
use Rattle.top_call.proofs.ReadMaps.{read_map_is_map}
use Rattle.top_call.proofs.WithinLimits.{held_are_arcs, run_keeps_limits}

-- ---- paths and layers

way_is_within : (Pair : ℕ → ℕ → Type 0) (m i : ℕ) (rest : List ℕ) → LeadsTo Pair m i rest → All (λ n. n ≤ m) (i ∷ rest)
way_is_within Pair m i [] leads = All-cons (λ n. n ≤ m) i [] (omega (arith, leads)) (All-nil (λ n. n ≤ m))
way_is_within Pair m i (next ∷ rest) leads =
    let below = LeadsTo-below Pair m next rest leads.2 in
    let up = leads.0 in
    All-cons (λ n. n ≤ m) i (next ∷ rest) (omega (arith, below, up)) (way_is_within Pair m next rest leads.2)

-- a path of m steps at most
record IsShortPath (m : ℕ) (path : List ℕ) : Type 0 where
  some : 0 < length path
  few : length path ≤ m + 1
  within : All (λ n. n ≤ m) path

path_is_short : (Pair : ℕ → ℕ → Type 0) (m : ℕ) (path : List ℕ) → IsPath Pair m path → IsShortPath m path
path_is_short Pair m [] none = absurd none
path_is_short Pair m (start ∷ rest) path =
    let leads = subst (λ (i : ℕ). LeadsTo Pair m i rest) (sym path.0) path.1 in
    record { some = omega arith; few = omega (arith, steps_left Pair m start rest leads); within = way_is_within Pair m start rest leads }

layers_are_within : (Pair : ℕ → ℕ → Type 0) (m : ℕ) (layers : List ℕ) → AreLayers Pair m layers → All (λ n. n ≤ m) layers
layers_are_within Pair m layers are k d within =
    let least = are.each k (omega (arith, within, are.count)) in
    let few = steps_left Pair m k least.some.0 least.some.1 in
    omega (arith, few, least.some.2, get_or_default layers k d 0 within)

-- ---- one record

record_of_edges : (t : Terms) (m : Map) (w : Work) (k : ℕ) (r : ChainRef) (one : Record) → IsMap m → LiesInArc m r
    → chain_at w.chains k ≡ chain_in m r → IsRecordOf t w k one → IsOfEdges (edge_count (chain_in m r)) one
record_of_edges t m w k r one is_map lies read is =
    let arc : one.arc ≡ r.arc = is.arc ∙ ap (λ (c : Chain). c.first.arc) read in
    let start : one.«from» ≡ r.«from» = is.«from» ∙ ap (λ (c : Chain). c.first.at) read in
    let long : length (arc_at m r.arc) ≤ 2 ^ 20 = omega (arith, get_or-le-sum_by length m.arcs r.arc [] lies.arc, is_map.few_positions) in
    let size : last_of w k ≡ edge_count (chain_in m r) = ap edge_count read in
    let kept = path_is_short (IsAllowedIn t w k) (last_of w k) one.kept is.best.leads in
    subst (λ (n : ℕ). IsOfEdges n one) size
    (record {
      arc = omega (arith, arc, lies.arc, is_map.few_arcs);
      «from» = omega (arith, start, lies.edge, lies.within, long);
      some_kept = kept.some;
      few_kept = kept.few;
      kept = kept.within;
      layer_count = is.layers.count;
      layers = layers_are_within (IsAllowedIn t w k) (last_of w k) one.layers is.layers;
    })

-- ---- all records

records_are_short : (t : Terms) (m : Map) (w after : Work) (k : ℕ) (refs : List ChainRef) (records : List Record) → IsMap m
    → All (LiesInArc m) refs → AllByRecursion IsRun (map (chain_in m) refs) → AreAsRead m w.chains k refs
    → AreReplaced t w k (length refs) records after
    → length (further (map record_text records)) ≤ 59 * sum_by edge_count (map (chain_in m) refs)
records_are_short t m w after k [] records is_map lie runs read run =
    omega (arith, ap (λ (rs : List Record). length (further (map record_text rs))) run.0)
records_are_short t m w after k (r ∷ rs) records is_map lie runs read (inl run) =
    let later = records_are_short t m w after (suc k) rs records is_map (All-tail (LiesInArc m) r rs lie) runs.1 read.1 run.1 in
    omega (arith, later, sum_by-cons edge_count (chain_in m r) (map (chain_in m) rs))
records_are_short t m w after k (r ∷ rs) records is_map lie runs read (inr run) =
    let one = run.1 in
    let left = later_as_read m w.chains k (suc k) (vertices_at (chain_at w.chains k) (drop 1 one.kept)) rs (omega arith) read.1 in
    let of_edges = record_of_edges t m w k r one is_map (All-head (LiesInArc m) r rs lie) read.0 run.4 in
    let here = record_is_short (edge_count (chain_in m r)) one runs.0.edge runs.0.short of_edges in
    let later =
    records_are_short t m (thinned_work w k one.kept) after (suc k) rs run.2 is_map
    (All-tail (LiesInArc m) r rs lie) runs.1 left run.5 in
    omega (
      arith,
      here,
      later,
      sum_by-cons edge_count (chain_in m r) (map (chain_in m) rs),
      ap (λ (ones : List Record). length (further (map record_text ones))) run.3,
      length-append (44 ∷ record_text one) (further (map record_text run.2)),
    )

-- ---- the certificate

held_are_few : (hold : Bool) (m : Map) (held : List ℕ) → AreHeldBeside hold m held → length held ≤ length m.arcs
held_are_few false m held beside = omega (arith, ap length beside.1)
held_are_few true m held beside = rising-length (length m.arcs) held beside.rising (held_are_arcs true m held beside)

outcome_is_short : (t : Terms) (m after : Map) (records : List Record) → IsMap m → IsOutcome m t after records
    → length (further (map record_text records)) + 59 * length m.arcs ≤ 59 * 2 ^ 20
outcome_is_short t m after records is outcome =
    let chains = map (chain_in m) outcome.refs in
    let short =
    records_are_short t m (work_of m outcome.refs) outcome.last 0 outcome.refs records is outcome.chains.lie
    (runs_of_arcs 0 m.arcs chains outcome.chains.cut) (left_as_read m chains 0 outcome.refs refl) outcome.replaced in
    omega (arith, short, edges_of_arcs 0 m.arcs chains is.arcs outcome.chains.cut, is.few_positions)

pub certified_is_short : (options : Options) (bound : ℤ) (text bytes : List ℕ) → AreWeights options.weights → IsBound bound
    → IsCertified options bound text bytes → length bytes ≤ 2 ^ 26
certified_is_short options bound text bytes weights is_bound is =
    let m = is.topology.map in
    let is_map = read_map_is_map text is.topology is.run.loaded.topology in
    let limits = run_keeps_limits options bound text is.topology is.held is.after is.records weights is_bound is.run in
    let few = held_are_few options.hold m is.held is.run.loaded.beside in
    let parts = certificate_fits (content (version_of options) bound (scales_of options.weights) is.held is.records) (record {
      version = limits.version.greatest;
      bound = limits.bound;
      across = limits.across_high;
      up = limits.up_high;
      held = λ k d within. omega (arith, held_are_arcs options.hold m is.held is.run.loaded.beside k d within, is_map.few_arcs);
    }) in
    omega (
      arith,
      ap length is.written,
      parts,
      few,
      outcome_is_short
          (terms_of options bound is.held) m is.after is.records is_map is.run.outcome,
    )
