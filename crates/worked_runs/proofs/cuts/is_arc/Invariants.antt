-- The neighbours so far differ.
use Rattle.std.proofs.Common.{◌≢◌, ◌+◌, ◌<◌, ℕ, get_or}
use Rattle.arc_map.specs.Arranged.{nowhere}
use Rattle.worked_runs.proofs.cuts.is_arc.Given as goal

abbrev pub invariant-loop-k : goal.invariant-loop-k
invariant-loop-k l = (j : ℕ) → j < l.k → get_or l.positions j nowhere ≢ get_or l.positions (j + 1) nowhere
