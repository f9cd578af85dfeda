-- The law is a lemma.
use Rattle.cert_checker.proofs.Sound as lemma
use Rattle.cert_checker.proofs.laws.yes_is_sound.Goals as goal

pub returns : goal.returns
returns c = lemma.yes_is_sound
