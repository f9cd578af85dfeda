use Rattle.std.proofs.Common.{take}
use Rattle.std.specs.Prelude.{All}
use Rattle.arc_map.specs.Allowed.{IsConsistent}
use Rattle.cert_checker.specs.Runs.{run_end, run_inner}
use Rattle.cert_checker.proofs.plain.chain_lets.Given as goal

abbrev pub invariant-loop-p : goal.invariant-loop-p
invariant-loop-p l = All (IsConsistent l.first (run_end l.first l.rest) (run_inner l.rest)) (take l.p-index l.chain)
