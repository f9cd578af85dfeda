use Rattle.std.proofs.Common.{◌≡◌, ◌++◌, drop, map}
use Rattle.std.specs.Prelude.{codes}
use Rattle.std.specs.Fmt.{signed_decimal}
use Rattle.dissolve.specs.Walk.{references}
use Rattle.dissolve.proofs.Entries.{entries_left}
use Rattle.dissolve.proofs.rings.write_ring.Given as goal

abbrev pub invariant-loop-k : goal.invariant-loop-k
invariant-loop-k l = l.out.items ++ entries_left l.k (drop l.k (map signed_decimal (references l.ring))) ≡ (l.fn.out.items ++ codes "[")
    ++ entries_left 0 (map signed_decimal (references l.ring))
