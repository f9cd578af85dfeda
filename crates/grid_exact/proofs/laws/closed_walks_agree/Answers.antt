-- The law is a lemma on closed walks.
use Rattle.grid_exact.proofs.Walks.{closed_walk}
use Rattle.grid_exact.proofs.laws.closed_walks_agree.Goals as goal

pub returns : goal.returns
returns c = closed_walk
