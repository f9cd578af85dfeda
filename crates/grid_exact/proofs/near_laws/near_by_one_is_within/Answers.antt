-- The law is the lemma.
use Rattle.grid_exact.proofs.Weighted.{near_by_one}
use Rattle.grid_exact.proofs.near_laws.near_by_one_is_within.Goals as goal

pub returns : goal.returns
returns c = near_by_one
