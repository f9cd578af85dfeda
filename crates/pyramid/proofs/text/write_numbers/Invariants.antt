use Rattle.std.proofs.Common.{◌≡◌, ◌++◌, drop, map, pos}
use Rattle.std.specs.Prelude.{codes}
use Rattle.std.specs.Fmt.{signed_decimal}
use Rattle.pyramid.proofs.Entries.{entries_left}
use Rattle.pyramid.proofs.text.write_numbers.Given as goal

abbrev pub invariant-loop-k : goal.invariant-loop-k
invariant-loop-k l = l.out.items ++ entries_left l.k (drop l.k (map (λ n. signed_decimal (pos n)) l.numbers))
    ≡ (l.fn.out.items ++ codes "[") ++ entries_left 0 (map (λ n. signed_decimal (pos n)) l.numbers)
