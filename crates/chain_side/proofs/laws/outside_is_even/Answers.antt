-- The law is a lemma.
use Rattle.chain_side.proofs.Outside.{outside_is_even}
use Rattle.chain_side.proofs.laws.outside_is_even.Goals as goal

pub returns : goal.returns
returns c = outside_is_even
