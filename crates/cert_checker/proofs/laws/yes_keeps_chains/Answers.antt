-- The law is a lemma.
use Rattle.cert_checker.proofs.Keeping as lemma
use Rattle.cert_checker.proofs.laws.yes_keeps_chains.Goals as goal

pub returns : goal.returns
returns c = lemma.yes_keeps_chains
