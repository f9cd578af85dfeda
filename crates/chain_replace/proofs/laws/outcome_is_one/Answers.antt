-- The law is a lemma on records and cuts.
use Rattle.chain_replace.proofs.SameOutcome.{outcome_is_one}
use Rattle.chain_replace.proofs.laws.outcome_is_one.Goals as goal

pub returns : goal.returns
returns c = outcome_is_one
