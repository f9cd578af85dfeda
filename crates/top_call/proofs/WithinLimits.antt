-- What the certificate of a run says keeps the limits of certificates.
use Rattle.std.proofs.Common.{◌≡◌, ℕ, zero, suc, ℤ, ◌<◌, ◌≤◌, ◌^◌, Bool, true, false, List, [], map, length, get_or, Option, None, Some}
use Rattle.std.proofs.Common.{inl, inr, refl, sym, ap, subst, arith}
use Rattle.std.specs.Prelude.{unsigned_abs}
use Rattle.std.proofs.lemmas.Bool.{cases_lt}
use Rattle.std.proofs.lemmas.Int.{ints}
use Rattle.std.proofs.lemmas.List.{length-map, get_or_past}
use Rattle.std.proofs.lemmas.List.Elements.{Contains-get_or}
use Rattle.grid_exact.specs.Weights.{Scales, IsWeight}
use Rattle.arc_map.specs.Map.{Map, IsMap}
use Rattle.arc_map.specs.ArcList.{IsArcList}
use Rattle.arc_map.specs.Arranged.{arc_at, IsMapEdge, IsHeld}
use Rattle.arc_map.specs.Arranged.IsHeld.{ByFirst, BySecond, ByPoint}
use Rattle.arc_map.specs.Records.{Record}
use Rattle.arc_map.specs.Work.{Work, chain_in, work_of, thinned_work}
use Rattle.arc_map.specs.declared.refs.EdgeRef.{EdgeRef}
use Rattle.arc_map.proofs.Cutting.{count_of_arcs}
use Rattle.arc_map.proofs.Rising.{rising-length}
use Rattle.cert_format.specs.Certificate.{IsVersion, KeepsLimits, content}
use Rattle.chain_replace.specs.Run.{Terms, AreReplaced, IsOutcome}
use Rattle.arrangement_check.proofs.Positions.{arc_in}
use Rattle.top_call.specs.declared.forms.Options.{Options}
use Rattle.topo_reader.specs.Reads.{TopologyRead}
use Rattle.top_call.specs.Maps.{scales_of, AreHeldBeside}
use Rattle.top_call.specs.Requests.{IsBound, AreWeights}
use Rattle.top_call.specs.Answers.{IsRun, version_by, version_of, terms_of}
use Rattle.top_call.proofs.ReadMaps.{read_map_is_map}

-- ---- the held arcs

held_in_map : (m : Map) (arc : ℕ) → IsHeld m arc → arc < length m.arcs
held_in_map m arc (ByFirst e f same edge other before clash) = subst (λ (n : ℕ). n < length m.arcs) same (arc_in m e edge)
held_in_map m arc (BySecond e f same edge other before clash) = subst (λ (n : ℕ). n < length m.arcs) same (arc_in m f other)
held_in_map m arc (ByPoint k e same point edge on) = subst (λ (n : ℕ). n < length m.arcs) same (arc_in m e edge)

-- each held arc is an arc of the map
pub held_are_arcs : (hold : Bool) (m : Map) (held : List ℕ) → AreHeldBeside hold m held → (k d : ℕ) → k < length held
    → get_or held k d < length m.arcs
held_are_arcs false m held beside k d within = let none = beside.1 in absurd (omega (arith, ap length none))
held_are_arcs true m held beside k d within =
    held_in_map m (get_or held k d) ((beside.all (get_or held k d)).0 (Contains-get_or held k d within))

no_arcs_listed : IsArcList []
no_arcs_listed = record { rising = λ k below. absurd (omega arith); few = omega arith }

held_are_listed : (hold : Bool) (m : Map) (held : List ℕ) → length m.arcs ≤ 2 ^ 20 → AreHeldBeside hold m held → IsArcList held
held_are_listed false m held few beside = subst IsArcList (sym beside.1) no_arcs_listed
held_are_listed true m held few beside =
    let below = held_are_arcs true m held beside in
    record { rising = beside.rising; few = omega (arith, few, rising-length (length m.arcs) held beside.rising below) }

-- ---- the version, the bound and the weights

version_fits : (hold : Bool) (weights : Option Scales) (m : Map) (held : List ℕ) → AreHeldBeside hold m held
    → IsVersion (version_by hold weights) (unsigned_abs (scales_of weights).x) (unsigned_abs (scales_of weights).y) held
version_fits hold (Some w) m held beside =
    record {
      least = omega arith;
      greatest = omega arith;
      no_held = λ one. absurd (omega arith);
      even_across = λ small.
          absurd (omega arith);
      even_up = λ small. absurd (omega arith);
    }
version_fits true None m held beside =
    record {
      least = omega arith;
      greatest = omega arith;
      no_held = λ one. absurd (omega arith);
      even_across = λ small. refl;
      even_up =
          λ small. refl;
    }
version_fits false None m held beside =
    record { least = omega arith; greatest = omega arith; no_held = λ one. beside.1; even_across = λ small. refl; even_up = λ small. refl }

-- the same of what a run has in memory
pub version_allowed : (options : Options) (m : Map) (held beside : List ℕ) (w : Scales) (version : ℕ) → version ≡ version_of options
    → w ≡ scales_of options.weights → beside ≡ held → AreHeldBeside options.hold m held
    → IsVersion version (unsigned_abs w.x) (unsigned_abs w.y) beside
version_allowed options m held beside w version is_version is_w is_held are =
    rw (is_version, is_w, is_held) (version_fits options.hold options.weights m held are)

-- a number from 1 to 65536
record IsScale (n : ℕ) : Type 0 where
  low : 1 ≤ n
  high : n ≤ 65536

scale_of_weight : (z : ℤ) → IsWeight z → IsScale (unsigned_abs z)
scale_of_weight z is = record { low = omega (arith, ints); high = omega (arith, ints) }

scales_fit : (weights : Option Scales) → AreWeights weights → IsScale (unsigned_abs (scales_of weights).x)
    × IsScale (unsigned_abs (scales_of weights).y)
scales_fit None are = (record { low = omega arith; high = omega arith }, record { low = omega arith; high = omega arith })
scales_fit (Some w) are = (scale_of_weight w.x are.0, scale_of_weight w.y are.1)

bound_fits : (bound : ℤ) → IsBound bound → unsigned_abs bound ≤ 2 ^ 30
bound_fits bound is = omega (arith, ints)

-- ---- the number of records

records_few : (t : Terms) (w : Work) (k more : ℕ) (records : List Record) (after : Work) → AreReplaced t w k more records after
    → length records ≤ more
records_few t w k zero records after run = omega (arith, ap length run.0)
records_few t w k (suc more) records after (inl run) = omega (arith, records_few t w (suc k) more records after run.1)
records_few t w k (suc more) records after (inr run) =
    omega (arith, ap length run.3, records_few t (thinned_work w k run.1.kept) (suc k) more run.2 after run.5)

outcome_has_few : (m : Map) (t : Terms) (after : Map) (records : List Record) → IsMap m → IsOutcome m t after records
    → length records ≤ 2 ^ 20
outcome_has_few m t after records is outcome =
    let count = count_of_arcs 0 m.arcs (map (chain_in m) outcome.refs) outcome.chains.cut in
    omega (
      arith,
      records_few t (work_of m outcome.refs) 0 (length outcome.refs) records outcome.last outcome.replaced,
      count,
      length-map
          outcome.refs (chain_in m),
      is.few_positions,
    )

-- ---- all of it

pub run_keeps_limits : (options : Options) (bound : ℤ) (text : List ℕ) (t : TopologyRead) (held : List ℕ) (after : Map)
    (records : List Record) → AreWeights options.weights → IsBound bound → IsRun options bound text t held after records
    → KeepsLimits (content (version_of options) bound (scales_of options.weights) held records)
run_keeps_limits options bound text t held after records weights is_bound run =
    let is = read_map_is_map text t run.loaded.topology in
    let scales = scales_fit options.weights weights in
    record {
      version = version_fits options.hold options.weights t.map held run.loaded.beside;
      bound = bound_fits bound is_bound;
      across_low = scales.0.low;
      across_high = scales.0.high;
      up_low = scales.1.low;
      up_high = scales.1.high;
      held = held_are_listed options.hold t.map held is.few_arcs run.loaded.beside;
      few = outcome_has_few t.map (terms_of options bound held) after records is run.outcome;
    }
