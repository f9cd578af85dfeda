use Rattle.std.proofs.Common.{◌<◌, ℕ, get_or}
use Rattle.cert_checker.specs.Indexed.{IsEdgeBetween}
use Rattle.cert_checker.proofs.indexed.is_double.Given as goal

-- none of the chains so far is one edge between the two places
abbrev pub invariant-loop-other : goal.invariant-loop-other
invariant-loop-other l = (n : ℕ) → n < l.other-index → IsEdgeBetween l.map.chains l.k l.v l.w (get_or l.other-items n 0) → ⊥
