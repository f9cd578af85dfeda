-- The records of a run pass each test of the judge: each is accepted in the map that the ones before it leave, as the run found it.
use Rattle.std.proofs.Common.{◌≡◌, ◌≢◌, ◌∙◌, ℕ, zero, suc, ◌+◌, ◌<◌, Bool, true, false, List, [], ◌∷◌, inl, inr, map, filter, length}
use Rattle.std.proofs.Common.{get_or, drop, refl, sym, ap, subst, arith}
use Rattle.std.specs.Prelude.{Contains}
use Rattle.std.specs.List.{enumerate_from}
use Rattle.std.proofs.lemmas.Bool.{cond-true, cond-false, not_from_true, not_from_false}
use Rattle.std.proofs.lemmas.List.{drop-drop, get_or-drop}
use Rattle.grid_exact.specs.Paths.{LeadsTo, IsPath}
use Rattle.arc_map.specs.Map.{Map}
use Rattle.arc_map.specs.Chains.{Chain, chain_at, no_chain, thinned}
use Rattle.arc_map.specs.Paths.{vertices_at}
use Rattle.arc_map.specs.Records.{Record}
use Rattle.arc_map.specs.Vertices.{Vertex}
use Rattle.arc_map.specs.Work.{Work, work_of, chain_in, thinned_work}
use Rattle.arc_map.specs.declared.refs.ChainRef.{ChainRef}
use Rattle.chain_replace.specs.Run.{Terms, IsAllowedIn, last_of, IsRecordOf, AreReplaced}
use Rattle.chain_replace.proofs.BestPaths.{best_is_certified, path_is_kept}
use Rattle.chain_replace.proofs.SameCuts.{chains_lie_once}
use Rattle.cert_checker.specs.Judged.{demand, is_free, record_spot, chain_spot, AreSteps, IsAccepted, AreJudged}
use Rattle.cert_checker.specs.declared.verdicts.Verdict.TheVariants.{Yes}
use Rattle.cert_checker.proofs.Holding.{is_held, held_from_contains, contains_from_held}
use Rattle.monotone_split.proofs.Maps.{chain_same}
use Rattle.top_call.specs.Laws.{RecordsAreJudgedYes}

-- ---- one record

-- each step from i along a way is a pair of the set
steps_along : (Pair : ℕ → ℕ → Type 0) (m i : ℕ) (rest : List ℕ) → LeadsTo Pair m i rest → AreSteps Pair (i ∷ rest)
steps_along Pair m i [] leads s below = absurd (omega arith)
steps_along Pair m i (next ∷ rest) leads zero below = leads.1
steps_along Pair m i (next ∷ rest) leads (suc s) below =
    let place : suc s + 1 ≡ suc (s + 1) = omega arith in
    rw place (steps_along Pair m next rest leads.2 s (omega arith))

path_steps : (Pair : ℕ → ℕ → Type 0) (m : ℕ) (path : List ℕ) → IsPath Pair m path → AreSteps Pair path
path_steps Pair m [] none = absurd none
path_steps Pair m (start ∷ rest) path = steps_along Pair m start rest (subst (λ (i : ℕ). LeadsTo Pair m i rest) (sym path.0) path.1)

record_is_accepted : (t : Terms) (w : Work) (k : ℕ) (r : Record) → IsRecordOf t w k r
    → IsAccepted (IsAllowedIn t w k) (chain_at w.chains k) r
record_is_accepted t w k r is =
    let sure = best_is_certified (IsAllowedIn t w k) (last_of w k) r.kept r.layers is.best is.layers in
    record {
      kept = path_is_kept (IsAllowedIn t w k) (chain_at w.chains k) r.kept is.best.leads;
      steps = path_steps (IsAllowedIn t w k) (last_of w k) r.kept is.best.leads;
      ends = record { count = sure.count; last = sure.last; start = sure.start };
      falls = sure.falls;
    }

-- ---- the chains that are still to come

-- from number k on the chains are as the map has them
abbrev pub AreAsRead : Map → List Chain → ℕ → List ChainRef → Type 0
AreAsRead m chains k [] = Unit {0}
AreAsRead m chains k (r ∷ rs) = (chain_at chains k ≡ chain_in m r) × AreAsRead m chains (suc k) rs

pub left_as_read : (m : Map) (chains : List Chain) (k : ℕ) (refs : List ChainRef) → drop k chains ≡ map (chain_in m) refs
    → AreAsRead m chains k refs
left_as_read m chains k [] left = tt
left_as_read m chains k (r ∷ rs) left =
    let here : k + 0 ≡ k = omega arith in
    let next : suc k ≡ k + 1 = omega arith in (
      ap (λ (n : ℕ). chain_at chains n) (sym here) ∙ sym (get_or-drop k chains 0 no_chain)
          ∙ ap (λ (cs : List Chain). get_or cs 0 no_chain) left,
      left_as_read m chains (suc k) rs (ap (λ (n : ℕ). drop n chains) next ∙ sym (drop-drop 1 k chains) ∙ ap (drop 1) left),
    )

-- they stay where a chain before them is thinned
pub later_as_read : (m : Map) (chains : List Chain) (k j : ℕ) (kept : List Vertex) (refs : List ChainRef) → k < j
    → AreAsRead m chains j refs → AreAsRead m (thinned chains k kept) j refs
later_as_read m chains k j kept [] behind are = tt
later_as_read m chains k j kept (r ∷ rs) behind are =
    let other : j ≢ k = omega arith in
    (chain_same chains k j kept other ∙ are.0, later_as_read m chains k (suc j) kept rs (omega arith) are.1)

-- ---- the chains whose arcs are not held

abbrev pub free_left : List ℕ → List ChainRef → ℕ → List (ℕ × ChainRef)
free_left held refs k = filter (is_free held) (enumerate_from k refs)

free_first : (held : List ℕ) (k : ℕ) (r : ChainRef) (rs : List ChainRef) → ¬ (Contains held r.arc)
    → free_left held (r ∷ rs) k ≡ (k, r) ∷ free_left held rs (k + 1)
free_first held k r rs free =
    cond-true (is_free held (k, r)) ((k, r) ∷ free_left held rs (k + 1)) (free_left held rs (k + 1)) (passes (is_held held r.arc) refl)
  where
    passes : (b : Bool) → is_held held r.arc ≡ b → is_free held (k, r) ≡ true
    passes true e = absurd (free (contains_from_held held r.arc e))
    passes false e = not_from_false (is_held held r.arc) e

held_first : (held : List ℕ) (k : ℕ) (r : ChainRef) (rs : List ChainRef) → Contains held r.arc
    → free_left held (r ∷ rs) k ≡ free_left held rs (k + 1)
held_first held k r rs has =
    cond-false (is_free held (k, r)) ((k, r) ∷ free_left held rs (k + 1)) (free_left held rs (k + 1))
    (not_from_true (is_held held r.arc) (held_from_contains held r.arc has))

-- ---- all records

-- the records are of these chains in order, and each is accepted
record AreAccepted (t : Terms) (version : ℕ) (w after : Work) (e : ℕ) (chains : List (ℕ × ChainRef)) (records : List Record) : Type 0 where
  spots : map record_spot records ≡ map chain_spot chains
  judged : AreJudged (demand version t.bound t.weights) w.read.points w.chains (map (λ chain. chain.0) chains) e records Yes after.chains

records_are_accepted : (t : Terms) (version : ℕ) (m : Map) (w after : Work) (k e : ℕ) (refs : List ChainRef) (records : List Record)
    → AreAsRead m w.chains k refs → AreReplaced t w k (length refs) records after
    → AreAccepted t version w after e (free_left t.held refs k) records
records_are_accepted t version m w after k e [] records read run =
    subst (AreAccepted t version w after e []) (sym run.0) (record { spots = refl; judged = (refl, ap (λ (v : Work). v.chains) run.1) })
records_are_accepted t version m w after k e (r ∷ rs) records read (inl run) =
    let has : Contains t.held r.arc = subst (λ (c : Chain). Contains t.held c.first.arc) read.0 run.0 in
    let next : suc k ≡ k + 1 = omega arith in
    let later = records_are_accepted t version m w after (suc k) e rs records read.1 run.1 in
    subst (λ (cs : List (ℕ × ChainRef)). AreAccepted t version w after e cs records) (sym (held_first t.held k r rs has))
    (subst (λ (n : ℕ). AreAccepted t version w after e (free_left t.held rs n) records) next later)
records_are_accepted t version m w after k e (r ∷ rs) records read (inr run) =
    let one = run.1 in
    let is = run.4 in
    let free : ¬ (Contains t.held r.arc) = λ has. run.0 (subst (λ (c : Chain). Contains t.held c.first.arc) (sym read.0) has) in
    let next : suc k ≡ k + 1 = omega arith in
    let left = later_as_read m w.chains k (suc k) (vertices_at (chain_at w.chains k) (drop 1 one.kept)) rs (omega arith) read.1 in
    let later = records_are_accepted t version m (thinned_work w k one.kept) after (suc k) (e + 1) rs run.2 left run.5 in
    let behind =
    subst (λ (n : ℕ). AreAccepted t version (thinned_work w k one.kept) after (e + 1) (free_left t.held rs n) run.2) next later in
    let arc : one.arc ≡ r.arc = is.arc ∙ ap (λ (c : Chain). c.first.arc) read.0 in
    let start : one.«from» ≡ r.«from» = is.«from» ∙ ap (λ (c : Chain). c.first.at) read.0 in
    let spot : record_spot one ≡ chain_spot (k, r) = cc in
    subst (λ (cs : List (ℕ × ChainRef)). AreAccepted t version w after e cs records) (sym (free_first t.held k r rs free))
    (subst (AreAccepted t version w after e ((k, r) ∷ free_left t.held rs (k + 1))) (sym run.3)
    (record { spots = cc (behind.spots); judged = inr (record_is_accepted t w k one is, behind.judged) }))

pub records_are_judged_yes : RecordsAreJudgedYes
records_are_judged_yes m t after records version refs chains outcome =
    let same = chains_lie_once m outcome.refs refs outcome.chains chains in
    let run = subst (λ (rs : List ChainRef). AreReplaced t (work_of m rs) 0 (length rs) records outcome.last) same outcome.replaced in
    let all =
    records_are_accepted t version m (work_of m refs) outcome.last 0 0 refs records
    (left_as_read m (map (chain_in m) refs) 0 refs refl) run in
    record {
      chains = outcome.last.chains;
      judged = inr (record { version = refl; bound = refl; weights = (refl, refl); held_arcs = refl; chains = all.spots }, all.judged);
      made = outcome.made;
    }
