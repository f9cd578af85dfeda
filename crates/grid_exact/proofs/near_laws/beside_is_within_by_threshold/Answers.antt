-- The law is the lemma.
use Rattle.grid_exact.proofs.Nearness.{within_by_threshold}
use Rattle.grid_exact.proofs.near_laws.beside_is_within_by_threshold.Goals as goal

pub returns : goal.returns
returns c = within_by_threshold
