use Rattle.std.proofs.Common.{◌≡◌, take}
use Rattle.cert_checker.proofs.prefixes.compare.Given as goal

abbrev pub invariant-loop-at : goal.invariant-loop-at
invariant-loop-at l = take l.at l.expected ≡ take l.at l.got
