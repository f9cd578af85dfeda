-- The law is a lemma on best paths.
use Rattle.chain_replace.proofs.SameOutcome.{layers_certify_path}
use Rattle.chain_replace.proofs.laws.layers_certify_path.Goals as goal

pub returns : goal.returns
returns c = layers_certify_path
