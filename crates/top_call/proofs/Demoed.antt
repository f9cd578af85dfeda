-- What `demo` tells is that of the run over the coverage.
use Rattle.std.proofs.Common.{◌≡◌, ◌∙◌, ℕ, zero, suc, ℤ, List, [], length, ap, subst, inl, inr, arith, Contains}
use Rattle.grid_exact.specs.Weights.{Scales}
use Rattle.arc_map.specs.Map.{Map}
use Rattle.arc_map.specs.Chains.{chain_at}
use Rattle.arc_map.specs.Records.{Record}
use Rattle.arc_map.specs.Work.{Work, thinned_work}
use Rattle.topo_reader.specs.Reads.{TopologyRead}
use Rattle.map_gen.specs.Make.{made}
use Rattle.chain_replace.specs.Run.{Terms, AreReplaced, IsOutcome}
use Rattle.top_call.specs.declared.forms.Options.{Options}
use Rattle.top_call.specs.Maps.{IsLoaded, scales_of}
use Rattle.top_call.specs.Answers.{IsDemoed, plain, position_count, demo_text, terms_of}

-- where no arc is held each chain has a record
one_each : (t : Terms) (w : Work) (k n : ℕ) (records : List Record) (after : Work) → t.held ≡ [] → AreReplaced t w k n records after
    → length records ≡ n
one_each t w k zero records after none h = ap length h.0
one_each t w k (suc n) records after none (inl h) =
    absurd (nothing_held ((chain_at w.chains k).first.arc) (subst
    (λ (arcs : List ℕ). Contains arcs (chain_at w.chains k).first.arc) none h.0))
  where
    nothing_held : (arc : ℕ) → Contains [] arc → ⊥
    nothing_held arc h = omega (arith, h.1)
one_each t w k (suc n) records after none (inr h) =
    let more = one_each t (thinned_work w k h.1.kept) (suc k) n h.2 after none h.5 in
    ap length h.3 ∙ ap suc more

pub demoed_by : (rows cols seed : ℕ) (bound : ℤ) (bytes text : List ℕ) (options : Options) (t : TopologyRead) (held : List ℕ) (after : Map)
    (records : List Record) (w : Scales) (chains before : ℕ) → options ≡ plain → text ≡ made rows cols seed → IsLoaded options text t held
    → w ≡ scales_of options.weights → IsOutcome t.map (record { held = held; bound = bound; weights = w }) after records
    → chains ≡ length records → before ≡ position_count t.map → bytes ≡ demo_text after chains before → IsDemoed rows cols seed bound bytes
demoed_by rows cols seed bound bytes text options t held after records w chains before is_plain is_made loaded is_w outcome is_chains
    is_before is =
    let with_plain = subst (λ (o : Options). IsLoaded o text t held) is_plain loaded in
    let of_made = subst (λ (xs : List ℕ). IsLoaded plain xs t held) is_made with_plain in
    let weighed =
    subst (λ (v : Scales). IsOutcome t.map (record { held = held; bound = bound; weights = v }) after records)
    (is_w ∙ ap (λ (o : Options). scales_of o.weights) is_plain) outcome in
    let all = one_each (terms_of plain bound held) _ 0 (length weighed.refs) records weighed.last of_made.beside.1 weighed.replaced in
    record {
      topology = t;
      held = held;
      after = after;
      records = records;
      run = record { loaded = of_made; outcome = weighed };
      written = is ∙ ap (λ (n : ℕ). demo_text after n before) (is_chains ∙ all) ∙ ap (demo_text after (length weighed.refs)) is_before;
    }
