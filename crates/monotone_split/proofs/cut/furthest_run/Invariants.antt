-- The run so far goes one way.
use Rattle.monotone_split.proofs.FurthestRun.{RunsSo}
use Rattle.monotone_split.proofs.cut.furthest_run.Given as goal

abbrev pub invariant-loop-run : goal.invariant-loop-run
invariant-loop-run l = RunsSo l.frame l.way l.positions l.run
