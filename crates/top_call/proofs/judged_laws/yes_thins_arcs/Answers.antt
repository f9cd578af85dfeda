-- The law is a lemma.
use Rattle.top_call.proofs.JudgedMaps as lemma
use Rattle.top_call.proofs.judged_laws.yes_thins_arcs.Goals as goal

pub returns : goal.returns
returns c = lemma.yes_thins_arcs
