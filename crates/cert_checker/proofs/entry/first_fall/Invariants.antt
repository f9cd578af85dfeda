use Rattle.std.proofs.Common.{◌<◌, ℕ, length}
use Rattle.cert_checker.specs.Subject.{FallNowhere, pairs_of}
use Rattle.cert_checker.proofs.entry.first_fall.Given as goal

abbrev pub invariant-loop-i : goal.invariant-loop-i
invariant-loop-i l = (x : ℕ) → x < l.i → FallNowhere (pairs_of l.map l.subject.chain l.subject.weights l.subject.bound) l.layers x
    (length l.layers)
