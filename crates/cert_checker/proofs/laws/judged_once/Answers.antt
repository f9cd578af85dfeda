-- The law is a lemma.
use Rattle.cert_checker.proofs.Uniqueness as lemma
use Rattle.cert_checker.proofs.laws.judged_once.Goals as goal

pub returns : goal.returns
returns c = lemma.judged_once
