use Rattle.std.proofs.Common.{ℕ, ◌<◌}
use Rattle.plane_sweep.specs.Answers.{IsOnNone}
use Rattle.plane_sweep.proofs.towns.least_town.Given as goal

abbrev pub invariant-loop-town : goal.invariant-loop-town
invariant-loop-town l = (k : ℕ) → k < l.town → IsOnNone l.map k
