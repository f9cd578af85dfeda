use Rattle.std.specs.List.{AllWithin}
use Rattle.arc_map.specs.Allowed.{IsConsistent}
use Rattle.cert_checker.specs.Runs.{run_end, run_inner}
use Rattle.cert_checker.proofs.plain.towns_let.Given as goal

abbrev pub invariant-loop-town : goal.invariant-loop-town
invariant-loop-town l = AllWithin (IsConsistent l.first (run_end l.first l.rest) (run_inner l.rest)) l.work.read.points 0 l.town
