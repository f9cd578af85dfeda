use Rattle.cert_checker.specs.Subject.{FallNowhere, pairs_of}
use Rattle.plain_judge.proofs.entry.first_fall_from.Given as goal

abbrev pub invariant-loop-j : goal.invariant-loop-j
invariant-loop-j l = FallNowhere (pairs_of l.work l.k l.weights l.bound) l.layers l.i l.j
