-- The law is the lemma.
use Rattle.grid_exact.proofs.Weighted.{near_is_within}
use Rattle.grid_exact.proofs.near_laws.near_is_within_of_weighted.Goals as goal

pub returns : goal.returns
returns c = near_is_within
