use Rattle.std.proofs.Common.{take}
use Rattle.pyramid.specs.Places.{AreRaised}
use Rattle.pyramid.proofs.ranks.raise.Given as goal

abbrev pub invariant-loop-at : goal.invariant-loop-at
invariant-loop-at l = AreRaised l.fn.ranks.items l.ranks.items (take l.at-index l.places) l.rank
