-- The law is a lemma.
use Rattle.cert_checker.proofs.Accepting as lemma
use Rattle.cert_checker.proofs.laws.accepted_keep_fewest.Goals as goal

pub returns : goal.returns
returns c = lemma.accepted_keep_fewest
