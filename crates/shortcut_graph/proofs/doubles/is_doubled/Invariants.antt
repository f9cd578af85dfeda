-- None of the chains so far is a twin.
use Rattle.std.proofs.Common.{ℕ, ◌<◌, get_or}
use Rattle.shortcut_graph.specs.Doubles.{IsTwin}
use Rattle.shortcut_graph.proofs.doubles.is_doubled.Given as goal

abbrev pub invariant-loop-other : goal.invariant-loop-other
invariant-loop-other l = (n : ℕ) → n < l.other-index → ¬ (IsTwin l.map.chains l.k (get_or l.other-items n 0) l.first l.last)
