-- The ranks are those of levels, of which each number has one.
use Rattle.pyramid.proofs.OneLevel.{ranks_are_one}
use Rattle.pyramid.proofs.laws.ranks_are_one.Goals as goal

pub returns : goal.returns
returns c = ranks_are_one
