-- The law is a lemma.
use Rattle.chain_side.proofs.Parity.{sides_tell_crossings}
use Rattle.chain_side.proofs.laws.sides_tell_crossings.Goals as goal

pub returns : goal.returns
returns c = sides_tell_crossings
