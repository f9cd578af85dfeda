-- The law is a lemma on what was written.
use Rattle.top_call.proofs.OnlyYes.{simplified_checks_yes}
use Rattle.top_call.proofs.laws.simplified_checks_yes.Goals as goal

pub returns : goal.returns
returns c = simplified_checks_yes
