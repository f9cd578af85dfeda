-- The law is a lemma.
use Rattle.chain_reach.proofs.Pairs.{close_is_in_reach}
use Rattle.chain_reach.proofs.laws.close_is_in_reach.Goals as goal

pub returns : goal.returns
returns c = close_is_in_reach
