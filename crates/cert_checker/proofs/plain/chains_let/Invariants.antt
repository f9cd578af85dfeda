use Rattle.std.proofs.Common.{◌≡◌, ◌<◌, ℕ, length}
use Rattle.arc_map.specs.Chains.{chain_at, chain_places}
use Rattle.cert_checker.specs.Open.{LetsRun}
use Rattle.cert_checker.specs.Runs.{run_end, run_inner}
use Rattle.cert_checker.proofs.plain.chains_let.Given as goal

abbrev pub invariant-loop-other : goal.invariant-loop-other
invariant-loop-other l = (m : ℕ) → m < l.other → (m ≡ l.k → ⊥) → 0 < length (chain_at l.work.chains m).rest
    → LetsRun l.first (run_inner l.rest) (run_end l.first l.rest) (chain_places (chain_at l.work.chains m))
