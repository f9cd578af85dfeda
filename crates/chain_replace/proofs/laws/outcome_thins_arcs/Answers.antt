-- The law is a lemma on the chains of each arc.
use Rattle.chain_replace.proofs.ThinnedArcs.{outcome_thins_arcs}
use Rattle.chain_replace.proofs.laws.outcome_thins_arcs.Goals as goal

pub returns : goal.returns
returns c = outcome_thins_arcs
