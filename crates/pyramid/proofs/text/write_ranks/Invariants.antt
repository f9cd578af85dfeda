use Rattle.std.proofs.Common.{◌≡◌, ◌++◌, drop, map}
use Rattle.std.specs.Prelude.{codes}
use Rattle.pyramid.specs.Places.{lists_of}
use Rattle.pyramid.specs.Texts.{numbers_text}
use Rattle.pyramid.proofs.Entries.{entries_left}
use Rattle.pyramid.proofs.text.write_ranks.Given as goal

abbrev pub invariant-loop-k : goal.invariant-loop-k
invariant-loop-k l = l.out.items ++ entries_left l.k (drop l.k (map numbers_text (lists_of l.ranks))) ≡ (l.fn.out.items ++ codes "[")
    ++ entries_left 0 (map numbers_text (lists_of l.ranks))
