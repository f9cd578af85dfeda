-- The law is a lemma.
use Rattle.chain_reach.proofs.Pairs.{only_close_counts}
use Rattle.chain_reach.proofs.laws.only_close_counts.Goals as goal

pub returns : goal.returns
returns c = only_close_counts
