-- What a run leaves of the chains of a map.
use Rattle.std.proofs.Common.{◌≡◌, ◌≢◌, ◌∙◌, ℕ, zero, suc, ◌+◌, ◌<◌, ◌≤◌, List, [], ◌∷◌, inl, inr, length, set, drop, refl, sym, subst}
use Rattle.std.proofs.Common.{arith}
use Rattle.std.specs.Prelude.{Contains}
use Rattle.std.specs.List.{AllZip}
use Rattle.std.proofs.lemmas.Bool.{cases_eq}
use Rattle.std.proofs.lemmas.List.{length-set, get_or-set_same, get_or-set_other}
use Rattle.arc_map.specs.Allowed.{IsPath}
use Rattle.arc_map.specs.Chains.{Chain, chain_at, no_chain, IsOtherEdge}
use Rattle.arc_map.specs.Paths.{vertices_at}
use Rattle.arc_map.specs.Records.{Record}
use Rattle.arc_map.specs.Work.{Work, thinned_work}
use Rattle.monotone_split.proofs.Numbers.{path_in}
use Rattle.chain_replace.specs.Run.{Terms, NearBy, IsAllowedIn, last_of, IsRecordOf, IsChainHeld, AreReplaced}
use Rattle.chain_replace.proofs.BestPaths.{path_leads}
use Rattle.chain_replace.proofs.NearPaths.{AreNear, path_is_near, path_of_all}

-- the chain l is what is left of the chain k: what is skipped is near, and nothing is where the arc is held
pub record IsLeftOf (t : Terms) (k l : Chain) : Type 0 where
  pub first : l.first ≡ k.first
  pub path : IsPath (AreNear (NearBy t)) k.first k.rest l.rest
  pub held : Contains t.held k.first.arc → l ≡ k

chain_stays : (t : Terms) (k : Chain) → IsLeftOf t k k
chain_stays t k = record { first = refl; path = path_of_all (NearBy t) k.first k.rest; held = λ held. refl }

-- from the chain number k on, what is left of the chains; those before it stay
pub record ThinsFrom (t : Terms) (k : ℕ) (before after : List Chain) : Type 0 where
  pub count : length after ≡ length before
  pub stay : (j : ℕ) → j < k → chain_at after j ≡ chain_at before j
  pub left : (j : ℕ) → IsLeftOf t (chain_at before j) (chain_at after j)

-- the chain with the vertices on its path
abbrev on_path : Chain → List ℕ → Chain
on_path k kept = record k { rest = vertices_at k (drop 1 kept) }

replaced_is_left : (t : Terms) (w : Work) (k : ℕ) (r : Record) → ¬ (IsChainHeld t w k) → IsRecordOf t w k r
    → IsLeftOf t (chain_at w.chains k) (on_path (chain_at w.chains k) r.kept)
replaced_is_left t w k r free is =
    let leads = (path_leads (IsAllowedIn t w k) (last_of w k) r.kept is.best.leads).0 in
    let path = path_in t.weights.x t.weights.y t.bound w.chains w.read.points k (drop 1 r.kept) leads in
    record {
      first = refl;
      path = path_is_near (NearBy t) (IsOtherEdge w.chains k) (Contains w.read.points) (chain_at w.chains k).first
          (chain_at w.chains k).rest (vertices_at (chain_at w.chains k) (drop 1 r.kept)) path;
      held = λ held. absurd (free held);
    }

-- the chain number k is replaced, and what comes after it
thins_more : (t : Terms) (k : ℕ) (x : Chain) (before after : List Chain) → k < length before → IsLeftOf t (chain_at before k) x
    → ThinsFrom t (suc k) (set before k x) after → ThinsFrom t k before after
thins_more t k x before after below here later =
    let count = length-set before k x in
    record {
      count = later.count ∙ count;
      stay = λ j under. let other : j ≢ k = omega arith in later.stay j (omega arith) ∙ get_or-set_other before k j x no_chain other;
      left = λ j. elim (cases_eq j k) [
        | inl same ↦
            subst (λ (i : ℕ). IsLeftOf t (chain_at before i) (chain_at after i)) (sym same)
            (subst (λ (l : Chain). IsLeftOf t (chain_at before k) l)
            (sym (later.stay k (omega arith) ∙ get_or-set_same before k x no_chain below)) here)
        | inr other ↦ subst (λ (l : Chain). IsLeftOf t l (chain_at after j)) (get_or-set_other before k j x no_chain other) (later.left j)
      ];
    }

pub thins_from : (t : Terms) (w : Work) (k more : ℕ) (records : List Record) (after : Work) → k + more ≤ length w.chains
    → AreReplaced t w k more records after → ThinsFrom t k w.chains after.chains
thins_from t w k zero records after within run =
    subst (λ (v : Work). ThinsFrom t k w.chains v.chains) run.1
    (record { count = refl; stay = λ j below. refl; left = λ j. chain_stays t (chain_at w.chains j) })
thins_from t w k (suc more) records after within (inl run) =
    let later = thins_from t w (suc k) more records after (omega arith) run.1 in
    record { count = later.count; stay = λ j below. later.stay j (omega arith); left = later.left }
thins_from t w k (suc more) records after within (inr run) =
    let x = on_path (chain_at w.chains k) run.1.kept in
    let count = length-set w.chains k x in
    let later = thins_from t (thinned_work w k run.1.kept) (suc k) more run.2 after (omega arith) run.5 in
    thins_more t k x w.chains after.chains (omega arith) (replaced_is_left t w k run.1 run.0 run.4) later

-- ---- chain by chain

pub each_is_left : (t : Terms) (ks ls : List Chain) → length ls ≡ length ks → ((j : ℕ) → IsLeftOf t (chain_at ks j) (chain_at ls j))
    → AllZip (IsLeftOf t) ks ls
each_is_left t [] [] count left = tt
each_is_left t [] (l ∷ ls) count left = absurd (omega arith)
each_is_left t (k ∷ ks) [] count left = absurd (omega arith)
each_is_left t (k ∷ ks) (l ∷ ls) count left = (left 0, each_is_left t ks ls (omega arith) (λ j. left (suc j)))
