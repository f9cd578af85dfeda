-- The law is a lemma.
use Rattle.chain_reach.proofs.Pairs.{only_close_counts_of_chain}
use Rattle.chain_reach.proofs.laws.only_close_counts_of_chain.Goals as goal

pub returns : goal.returns
returns c = only_close_counts_of_chain
