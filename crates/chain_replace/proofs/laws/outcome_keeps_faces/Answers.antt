-- The law is a lemma on lists of steps.
use Rattle.chain_replace.proofs.Replacing.{outcome_keeps_faces}
use Rattle.chain_replace.proofs.laws.outcome_keeps_faces.Goals as goal

pub returns : goal.returns
returns c = outcome_keeps_faces
