use Rattle.std.proofs.Common.{◌≡◌, ◌++◌, drop, map}
use Rattle.std.specs.Prelude.{codes}
use Rattle.dissolve.specs.Texts.{ring_text}
use Rattle.dissolve.specs.Walk.{rings_of}
use Rattle.dissolve.proofs.Entries.{entries_left}
use Rattle.dissolve.proofs.rings.write_rings.Given as goal

abbrev pub invariant-loop-k : goal.invariant-loop-k
invariant-loop-k l = l.out.items ++ entries_left l.k (drop l.k (map ring_text (rings_of l.rings))) ≡ (l.fn.out.items ++ codes "[")
    ++ entries_left 0 (map ring_text (rings_of l.rings))
