-- The coordinates so far.
use Rattle.shortcut_graph.specs.Weighed.{IsColumn}
use Rattle.worked_runs.proofs.graph.up.Given as goal

abbrev pub invariant-loop-place : goal.invariant-loop-place
invariant-loop-place l = IsColumn (λ p. p.y) l.places l.ys.items l.place-index
