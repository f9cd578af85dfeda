use Rattle.std.proofs.Common.{◌<◌, ◌≤◌, ◌-◌, ℕ}
use Rattle.sweep_index.specs.Area.{lowest, highest}
use Rattle.sweep_index.specs.Search.{IsCursor, IsFoundAt}
use Rattle.sweep_index.proofs.walk.Search.next_from.Given as goal

abbrev pub invariant-loop-k : goal.invariant-loop-k
invariant-loop-k l = record {
  valid : IsCursor l.self.grid l.self.entries.now l.self.live.now (lowest l.self.area) (highest l.self.area) l.row l.end;
  onward : l.fn.cursor.at ≤ l.at;
  none : (k : ℕ) → l.fn.cursor.at ≤ k → k < l.at
      → ¬ (IsFoundAt l.self.entries.now l.self.live.now (lowest l.self.area) (highest l.self.area) k);
}

abbrev pub decreases-loop-k : goal.decreases-loop-k
decreases-loop-k l = l.self.grid.rows - l.row
