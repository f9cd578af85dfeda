-- The chains of a run that are replaced are steps: so the laws of replacements hold of the outcome.
use Rattle.std.proofs.Common.{◌≡◌, ℕ, zero, suc, ◌+◌, ◌≤◌, List, [], ◌∷◌, ◌++◌, inl, inr, length, drop, sym, ap, subst, arith}
use Rattle.std.proofs.lemmas.List.{length-set, length-map}
use Rattle.arc_map.specs.Map.{Map}
use Rattle.arc_map.specs.Arcs.{map_now}
use Rattle.arc_map.specs.Chains.{chain_at}
use Rattle.arc_map.specs.Paths.{Step, AreSteps, vertices_at}
use Rattle.arc_map.specs.Records.{Record}
use Rattle.arc_map.specs.Work.{Work, work_of, chain_in, thinned_work}
use Rattle.monotone_split.proofs.Named.{arranged_by_names}
use Rattle.monotone_split.proofs.Outcome.{steps_keep_map}
use Rattle.chain_replace.specs.Run.{Terms, NearBy, IsAllowedIn, last_of, AreReplaced}
use Rattle.chain_replace.specs.Laws.{KeepsFaces, OutcomeKeepsFaces}
use Rattle.chain_replace.proofs.BestPaths.{path_leads}

-- the chains that were replaced, as steps
record ReplacedBySteps (t : Terms) (w after : Work) : Type 0 where
  steps : List Step
  taken : AreSteps (NearBy t) t.held w.read.points w.chains steps after.chains

replaced_by_steps : (t : Terms) (w : Work) (k more : ℕ) (records : List Record) (after : Work) → k + more ≤ length w.chains
    → AreReplaced t w k more records after → ReplacedBySteps t w after
replaced_by_steps t w k zero records after within run = record { steps = []; taken = ap (λ (v : Work). v.chains) run.1 }
replaced_by_steps t w k (suc more) records after within (inl run) = replaced_by_steps t w (suc k) more records after (omega arith) run.1
replaced_by_steps t w k (suc more) records after within (inr run) =
    let kept = run.1.kept in
    let rest = vertices_at (chain_at w.chains k) (drop 1 kept) in
    let count = length-set w.chains k (record (chain_at w.chains k) { rest = rest }) in
    let later = replaced_by_steps t (thinned_work w k kept) (suc k) more run.2 after (omega arith) run.5 in
    record {
      steps = record { chain = k; numbers = drop 1 kept } ∷ later.steps;
      taken = (omega arith, run.0, (path_leads (IsAllowedIn t w k) (last_of w k) kept run.4.best.leads).0, later.taken);
    }

pub outcome_keeps_faces : OutcomeKeepsFaces
outcome_keeps_faces m t after records was out =
    let count = length-map out.refs (chain_in m) in
    let walk = replaced_by_steps t (work_of m out.refs) 0 (length out.refs) records out.last (omega arith) out.replaced in
    let kept = steps_keep_map t.weights.x t.weights.y t.bound t.held m (work_of m out.refs).chains walk.steps out.last.chains out.chains.cut
    ((arranged_by_names t.held m).0 was) walk.taken in
    subst (λ (n : Map). KeepsFaces t.held m n) (sym out.made)
    (record {
      arranged = (arranged_by_names t.held (map_now m out.last.chains)).1 kept.arranged;
      parity = kept.parity;
      inside =
          kept.inside;
    })

-- ---- one chain more

-- a run that has come to the chain number `at`, and the chain of that number
pub replaced_more : (t : Terms) (w : Work) (k more at : ℕ) (records added : List Record) (mid after : Work) → k + more ≡ at
    → AreReplaced t w k more records mid → AreReplaced t mid at 1 added after → AreReplaced t w k (suc more) (records ++ added) after
replaced_more t w k zero at records added mid after here so_far step =
    let place : k ≡ at = omega arith in
    let entries : added ≡ records ++ added = ap (λ (rs : List Record). rs ++ added) (sym so_far.0) in
    subst (λ (rs : List Record). AreReplaced t w k 1 rs after) entries
    (subst (λ (v : Work). AreReplaced t v k 1 added after) (sym so_far.1)
    (subst (λ (n : ℕ). AreReplaced t mid n 1 added after) (sym place) step))
replaced_more t w k (suc more) at records added mid after here (inl so_far) step =
    inl (so_far.0, replaced_more t w (suc k) more at records added mid after (omega arith) so_far.1 step)
replaced_more t w k (suc more) at records added mid after here (inr so_far) step =
    inr (
      so_far.0,
      so_far.1,
      so_far.2 ++ added,
      ap (λ (rs : List Record). rs ++ added) so_far.3,
      so_far.4,
      replaced_more t
          (thinned_work w k so_far.1.kept) (suc k) more at so_far.2 added mid after (omega arith) so_far.5 step,
    )
