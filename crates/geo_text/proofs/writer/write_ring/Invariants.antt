use Rattle.std.proofs.Common.{◌≡◌, ◌++◌, drop, map}
use Rattle.std.specs.Prelude.{codes}
use Rattle.std.specs.Fmt.{signed_decimal}
use Rattle.geo_text.proofs.Listing.{entries_left}
use Rattle.geo_text.proofs.writer.write_ring.Given as goal

abbrev pub invariant-loop-k : goal.invariant-loop-k
invariant-loop-k l =
    l.out.items ++ entries_left l.k (drop l.k (map signed_decimal l.ring)) ≡ (l.fn.out.items ++ codes "[") ++ entries_left 0
    (map signed_decimal l.ring)
