use Rattle.std.proofs.Common.{◌+◌, ◌<◌, ℕ, slice_index}
use Rattle.cert_checker.specs.Subject.{pairs_of}
use Rattle.cert_checker.proofs.entry.first_bad_step.Given as goal

abbrev pub invariant-loop-at : goal.invariant-loop-at
invariant-loop-at l = (s : ℕ) → s + 1 < l.at
    → pairs_of l.map l.subject.chain l.subject.weights l.subject.bound (slice_index l.kept s) (slice_index l.kept (s + 1))
