use Rattle.std.proofs.Common.{◌≡◌, ◌++◌, drop, map}
use Rattle.std.specs.Prelude.{codes}
use Rattle.std.specs.Fmt.{signed_decimal}
use Rattle.pyramid.proofs.Entries.{entries_left}
use Rattle.pyramid.proofs.text.write_bounds.Given as goal

abbrev pub invariant-loop-k : goal.invariant-loop-k
invariant-loop-k l = l.out.items ++ entries_left l.k (drop l.k (map signed_decimal l.bounds)) ≡ (l.fn.out.items ++ codes "[")
    ++ entries_left 0 (map signed_decimal l.bounds)
