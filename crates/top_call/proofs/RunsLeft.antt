-- What a run leaves of the chains of a map: each runs one way, between the ends that it had.
use Rattle.std.proofs.Common.{◌≡◌, ◌∙◌, ℕ, zero, suc, List, [], ◌∷◌, ◌++◌, inl, inr, set, drop, refl, sym, ap, subst}
use Rattle.std.specs.Prelude.{Contains}
use Rattle.std.specs.List.{AllZip}
use Rattle.grid_exact.specs.Runs.{IsMonotone}
use Rattle.grid_exact.specs.Walks.{end_of}
use Rattle.arc_map.specs.Vertices.{Vertex, places}
use Rattle.arc_map.specs.Allowed.{IsAllowed, IsPath}
use Rattle.arc_map.specs.Chains.{Chain, chain_at, IsOtherEdge}
use Rattle.arc_map.specs.Paths.{vertices_at}
use Rattle.arc_map.specs.Records.{Record}
use Rattle.arc_map.specs.Work.{Work, thinned_work}
use Rattle.monotone_split.proofs.Numbers.{path_in}
use Rattle.monotone_split.proofs.Paths.{kept_monotone}
use Rattle.chain_replace.specs.Run.{Terms, NearBy, IsAllowedIn, last_of, IsRecordOf, AreReplaced}
use Rattle.chain_replace.proofs.BestPaths.{path_leads}
use Rattle.chain_replace.proofs.NearPaths.{skipped_end}

-- the chain l has the ends of the chain k, and runs one way where that does
pub record IsRunOf (k l : Chain) : Type 0 where
  pub first : l.first ≡ k.first
  pub last : end_of l.first l.rest ≡ end_of k.first k.rest
  pub one_way : IsMonotone k.frame k.first.place (places k.rest) → IsMonotone l.frame l.first.place (places l.rest)

run_stays : (k : Chain) → IsRunOf k k
run_stays k = record { first = refl; last = refl; one_way = λ runs. runs }

run_twice : (j k l : Chain) → IsRunOf j k → IsRunOf k l → IsRunOf j l
run_twice j k l first second = record {
  first = second.first ∙ first.first;
  last = second.last ∙ first.last;
  one_way = λ runs. second.one_way (first.one_way runs);
}

pub all_stay : (ks : List Chain) → AllZip IsRunOf ks ks
all_stay [] = tt
all_stay (k ∷ ks) = (run_stays k, all_stay ks)

one_replaced : (start ks : List Chain) (n : ℕ) (x : Chain) → AllZip IsRunOf start ks → IsRunOf (chain_at ks n) x
    → AllZip IsRunOf start (set ks n x)
one_replaced [] [] n x runs here = tt
one_replaced [] (k ∷ ks) n x runs here = absurd runs
one_replaced (s ∷ ss) [] n x runs here = absurd runs
one_replaced (s ∷ ss) (k ∷ ks) zero x runs here = (run_twice s k x runs.0 here, runs.1)
one_replaced (s ∷ ss) (k ∷ ks) (suc n) x runs here = (runs.0, one_replaced ss ks n x runs.1 here)

-- ---- a path ends where its walk does

path_last : (Allowed : Vertex → List Vertex → Vertex → Type 0) (v : Vertex) (ws us : List Vertex) → IsPath Allowed v ws us
    → end_of v us ≡ end_of v ws
path_last Allowed v ws [] path = ap (λ (xs : List Vertex). end_of v xs) (sym path)
path_last Allowed v ws (u ∷ us) path = path_last Allowed u path.1 us path.4 ∙ sym (skipped_end v path.0 u path.1)
    ∙ ap (λ (xs : List Vertex). end_of v xs) (sym path.2)

-- ---- the chains of a run

-- the chain with the vertices on its path
abbrev on_path : Chain → List ℕ → Chain
on_path k kept = record k { rest = vertices_at k (drop 1 kept) }

path_is_run : (t : Terms) (w : Work) (n : ℕ) (r : Record) → IsRecordOf t w n r
    → IsRunOf (chain_at w.chains n) (on_path (chain_at w.chains n) r.kept)
path_is_run t w n r is =
    let k = chain_at w.chains n in
    let us = vertices_at k (drop 1 r.kept) in
    let leads = (path_leads (IsAllowedIn t w n) (last_of w n) r.kept is.best.leads).0 in
    let path = path_in t.weights.x t.weights.y t.bound w.chains w.read.points n (drop 1 r.kept) leads in
    record {
      first = refl;
      last = path_last (IsAllowed (NearBy t) (IsOtherEdge w.chains n) (Contains w.read.points)) k.first k.rest us path;
      one_way =
          λ runs. kept_monotone (IsAllowed (NearBy t) (IsOtherEdge w.chains n) (Contains w.read.points)) k.frame k.first k.rest us runs
          path;
    }

pub runs_left : (start : List Chain) (t : Terms) (w : Work) (n more : ℕ) (records : List Record) (after : Work)
    → AllZip IsRunOf start w.chains → AreReplaced t w n more records after → AllZip IsRunOf start after.chains
runs_left start t w n zero records after runs run = subst (λ (v : Work). AllZip IsRunOf start v.chains) run.1 runs
runs_left start t w n (suc more) records after runs (inl run) = runs_left start t w (suc n) more records after runs run.1
runs_left start t w n (suc more) records after runs (inr run) =
    let next = one_replaced start w.chains n (on_path (chain_at w.chains n) run.1.kept) runs (path_is_run t w n run.1 run.4) in
    runs_left start t (thinned_work w n run.1.kept) (suc n) more run.2 after next run.5
