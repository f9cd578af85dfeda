use Rattle.pyramid.proofs.Listing.{AreRaisedTo}
use Rattle.pyramid.proofs.ranks.raise_all.Given as goal

abbrev pub invariant-loop-arc : goal.invariant-loop-arc
invariant-loop-arc l = AreRaisedTo l.fn.ranks l.ranks l.places l.rank l.arc
