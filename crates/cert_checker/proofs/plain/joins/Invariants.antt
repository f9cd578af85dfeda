use Rattle.std.proofs.Common.{ℕ, ◌+◌, ◌<◌}
use Rattle.cert_checker.proofs.Steps.{SameEndsAt}
use Rattle.cert_checker.proofs.plain.joins.Given as goal

abbrev pub invariant-loop-at : goal.invariant-loop-at
invariant-loop-at l = (s : ℕ) → s + 1 < l.at → SameEndsAt l.v l.w l.chain s → ⊥
