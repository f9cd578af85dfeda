-- What a run writes of a text is faithful to it.
use Rattle.std.proofs.Common.{◌≡◌, ℕ, zero, suc, ℤ, ◌+◌, ◌<◌, Bool, true, false, List, ◌∷◌, length, take, get_or, ap, refl, sym, subst, inl}
use Rattle.std.proofs.Common.{inr, arith}
use Rattle.arc_map.specs.Map.{Map}
use Rattle.arc_map.specs.Arranged.{IsMapArranged}
use Rattle.arc_map.specs.Records.{Record}
use Rattle.arc_map.specs.Work.{Work, work_of, thinned_work}
use Rattle.arrangement_check.proofs.Marking.{arranged_beside}
use Rattle.chain_replace.specs.Run.{Terms, IsRecordOf, AreReplaced}
use Rattle.chain_replace.proofs.Replacing.{outcome_keeps_faces}
use Rattle.chain_replace.proofs.SameOutcome.{layers_certify_path}
use Rattle.chain_replace.proofs.ThinnedArcs.{outcome_thins_arcs}
use Rattle.top_call.specs.declared.forms.Options.{Options}
use Rattle.top_call.specs.Maps.{AreHeldBeside}
use Rattle.top_call.specs.Answers.{IsSimplified, terms_of}
use Rattle.top_call.specs.Headline.{IsFewest, IsFaithful}

-- ---- the records of a run

-- the record number n of a run from the chain number k on: so many chains were replaced before it
record IsFoundIn (t : Terms) (w : Work) (k : ℕ) (records : List Record) (n : ℕ) (r : Record) : Type 0 where
  steps : ℕ
  found : Work
  before : AreReplaced t w k steps (take n records) found
  best : IsRecordOf t found (k + steps) r

-- the first record, of the first chain
found_first : (t : Terms) (w : Work) (k : ℕ) (r : Record) (rest : List Record) → IsRecordOf t w k r → IsFoundIn t w k (r ∷ rest) 0 r
found_first t w k r rest is =
    let same : k ≡ k + 0 = omega arith in
    record { steps = 0; found = w; before = (refl, refl); best = subst (λ (j : ℕ). IsRecordOf t w j r) same is }

record_found : (t : Terms) (w : Work) (k more : ℕ) (records : List Record) (after : Work) (n : ℕ) (d : Record)
    → AreReplaced t w k more records after → n < length records → IsFoundIn t w k records n (get_or records n d)
record_found t w k zero records after n d run within = absurd (omega (arith, within, ap length run.0))
record_found t w k (suc more) records after n d (inl run) within =
    let later = record_found t w (suc k) more records after n d run.1 within in
    let same : suc k + later.steps ≡ k + suc later.steps = omega arith in
    record {
      steps = suc later.steps;
      found = later.found;
      before = inl (run.0, later.before);
      best = subst (λ (j : ℕ). IsRecordOf t later.found j (get_or records n d)) same later.best;
    }
record_found t w k (suc more) records after zero d (inr run) within =
    subst (λ (rs : List Record). IsFoundIn t w k rs 0 (get_or rs 0 d)) (sym run.3) (found_first t w k run.1 run.2 run.4)
record_found t w k (suc more) records after (suc n) d (inr run) within =
    let later = record_found t (thinned_work w k run.1.kept) (suc k) more run.2 after n d run.5 (omega (arith, within, ap length run.3)) in
    let same : suc k + later.steps ≡ k + suc later.steps = omega arith in
    subst (λ (rs : List Record). IsFoundIn t w k rs (suc n) (get_or rs (suc n) d)) (sym run.3)
    (record {
      steps = suc later.steps;
      found = later.found;
      before = inr (run.0, run.1, take n run.2, refl, run.4, later.before);
      best = subst (λ (j : ℕ). IsRecordOf t later.found j (get_or run.2 n d)) same later.best;
    })

record_is_fewest : (t : Terms) (w : Work) (more : ℕ) (records : List Record) (after : Work) (n : ℕ) (d : Record)
    → AreReplaced t w 0 more records after → n < length records → IsFewest t w records n (get_or records n d)
record_is_fewest t w more records after n d run within =
    let one = record_found t w 0 more records after n d run within in
    let same : 0 + one.steps ≡ one.steps = omega arith in
    let best = subst (λ (j : ℕ). IsRecordOf t one.found j (get_or records n d)) same one.best in
    record {
      chain = one.steps;
      found = one.found;
      before = one.before;
      best = best;
      certified =
          layers_certify_path t one.found one.steps (get_or records n d) best;
    }

-- ---- all of it

pub arranged_with : (hold : Bool) (m : Map) (held : List ℕ) → AreHeldBeside hold m held → IsMapArranged held m
arranged_with true m held beside = arranged_beside m held beside
arranged_with false m held beside = subst (λ (arcs : List ℕ). IsMapArranged arcs m) (sym beside.1) beside.0

pub simplified_is_faithful : (options : Options) (bound : ℤ) (text bytes : List ℕ) → IsSimplified options bound text bytes
    → IsFaithful options bound text bytes
simplified_is_faithful options bound text bytes by =
    let m = by.topology.map in
    let t = terms_of options bound by.held in
    let run = by.run.outcome in
    record {
      topology = by.topology;
      held = by.held;
      loaded = by.run.loaded;
      after = by.after;
      written = by.written;
      records = by.records;
      run = run;
      arcs = outcome_thins_arcs m t by.after by.records run;
      faces = outcome_keeps_faces m t by.after by.records (arranged_with options.hold m by.held by.run.loaded.beside) run;
      fewest = λ n d within. record_is_fewest t (work_of m run.refs) (length run.refs) by.records run.last n d run.replaced within;
    }
