-- The law is a lemma.
use Rattle.top_call.proofs.JudgedMaps as lemma
use Rattle.top_call.proofs.judged_laws.checked_yes_are_right.Goals as goal

pub returns : goal.returns
returns c = lemma.checked_yes_are_right
