use Rattle.dissolve.specs.Odd.{odd_arcs}
use Rattle.dissolve.proofs.Single.{same-rings}
use Rattle.dissolve.proofs.laws.border_is_one.Goals as goal

pub returns : goal.returns
returns c = λ m polygons rings others one other. same-rings m (odd_arcs m polygons) rings others one other
