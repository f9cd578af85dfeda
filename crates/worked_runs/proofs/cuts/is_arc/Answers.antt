-- All neighbours have been tested.
use Rattle.std.proofs.Common.{arith, rules}
use Rattle.monotone_split.proofs.Neighbours.{arc_by_tests}
use Rattle.worked_runs.proofs.cuts.is_arc.Goals as goal

pub returns : goal.returns
returns c = λ all. arc_by_tests c.args.positions.now c.loop-k.k (search rules) (omega (arith, c.loop-k-test.false)) c.loop-k.invariant
