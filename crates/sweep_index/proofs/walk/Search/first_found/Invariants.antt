use Rattle.std.proofs.Common.{◌<◌, ◌≤◌, ℕ}
use Rattle.sweep_index.specs.Area.{lowest, highest}
use Rattle.sweep_index.specs.Search.{IsFoundAt}
use Rattle.sweep_index.proofs.walk.Search.first_found.Given as goal

abbrev pub invariant-loop-k : goal.invariant-loop-k
invariant-loop-k l = (k : ℕ) → l.at ≤ k → k < l.k
    → ¬ (IsFoundAt l.self.entries.now l.self.live.now (lowest l.self.area) (highest l.self.area) k)
