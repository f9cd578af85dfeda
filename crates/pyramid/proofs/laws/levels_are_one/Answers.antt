-- The law is an induction over the levels.
use Rattle.pyramid.proofs.OneLevel.{levels_are_one}
use Rattle.pyramid.proofs.laws.levels_are_one.Goals as goal

pub returns : goal.returns
returns c = levels_are_one
