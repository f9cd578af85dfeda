-- A run has one outcome: each chain's record is determined by the map as found, and so is the map that it leaves.
use Rattle.std.proofs.Common.{◌≡◌, ◌∙◌, ℕ, zero, suc, List, ◌∷◌, inl, inr, length, sym, ap, subst}
use Rattle.arc_map.specs.Arcs.{map_now}
use Rattle.arc_map.specs.Records.{Record}
use Rattle.arc_map.specs.Work.{Work, work_of, thinned_work}
use Rattle.arc_map.specs.declared.refs.ChainRef.{ChainRef}
use Rattle.chain_replace.specs.Run.{Terms, IsAllowedIn, last_of, IsRecordOf, AreReplaced}
use Rattle.chain_replace.specs.Laws.{OutcomeIsOne, LayersCertifyPath}
use Rattle.chain_replace.proofs.BestPaths.{best_path_is_one, layers_are_one, best_is_certified}
use Rattle.chain_replace.proofs.SameCuts.{chains_lie_once}

record_is_one : (t : Terms) (w : Work) (k : ℕ) (r s : Record) → IsRecordOf t w k r → IsRecordOf t w k s → r ≡ s
record_is_one t w k r s first second =
    let arc = first.arc ∙ sym second.arc in
    let start = first.«from» ∙ sym second.«from» in
    let kept = best_path_is_one (IsAllowedIn t w k) (last_of w k) r.kept s.kept first.best second.best in
    let layers = layers_are_one (IsAllowedIn t w k) (last_of w k) r.layers s.layers first.layers second.layers in
    ap (λ (n : ℕ). record { arc = n; «from» = r.«from»; kept = r.kept; layers = r.layers }) arc
    ∙ ap (λ (n : ℕ). record { arc = s.arc; «from» = n; kept = r.kept; layers = r.layers }) start
    ∙ ap (λ (ns : List ℕ). record { arc = s.arc; «from» = s.«from»; kept = ns; layers = r.layers }) kept
    ∙ ap (λ (ns : List ℕ). record { arc = s.arc; «from» = s.«from»; kept = s.kept; layers = ns }) layers

-- two runs lead to one map with the same records
record SameEnd (after other : Work) (records others : List Record) : Type 0 where
  work : after ≡ other
  entries : records ≡ others

replaced_once : (t : Terms) (w : Work) (k more : ℕ) (records others : List Record) (after other : Work)
    → AreReplaced t w k more records after → AreReplaced t w k more others other → SameEnd after other records others
replaced_once t w k zero records others after other first second =
    record { work = sym first.1 ∙ second.1; entries = first.0 ∙ sym second.0 }
replaced_once t w k (suc more) records others after other (inl first) (inl second) =
    replaced_once t w (suc k) more records others after other first.1 second.1
replaced_once t w k (suc more) records others after other (inl first) (inr second) = absurd (second.0 first.0)
replaced_once t w k (suc more) records others after other (inr first) (inl second) = absurd (first.0 second.0)
replaced_once t w k (suc more) records others after other (inr first) (inr second) =
    let same = record_is_one t w k first.1 second.1 first.4 second.4 in
    let later = replaced_once t (thinned_work w k first.1.kept) (suc k) more first.2 second.2 after other first.5
    (subst (λ (r : Record). AreReplaced t (thinned_work w k r.kept) (suc k) more second.2 other) (sym same) second.5) in
    record {
      work = later.work;
      entries = first.3 ∙ ap (λ (r : Record). r ∷ first.2) same ∙ ap (λ (rs : List Record). second.1 ∷ rs) later.entries ∙ sym second.3;
    }

pub outcome_is_one : OutcomeIsOne
outcome_is_one m t after other records others first second =
    let places = chains_lie_once m first.refs second.refs first.chains second.chains in
    let end = replaced_once t (work_of m first.refs) 0 (length first.refs) records others first.last second.last first.replaced
    (subst (λ (rs : List ChainRef). AreReplaced t (work_of m rs) 0 (length rs) others second.last) (sym places) second.replaced) in
    (first.made ∙ ap (λ (w : Work). map_now m w.chains) end.work ∙ sym second.made, end.entries)

pub layers_certify_path : LayersCertifyPath
layers_certify_path t w k r is = best_is_certified (IsAllowedIn t w k) (last_of w k) r.kept r.layers is.best is.layers
