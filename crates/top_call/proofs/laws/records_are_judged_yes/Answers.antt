-- The law is a lemma on the entries of a certificate.
use Rattle.top_call.proofs.Entries.{records_are_judged_yes}
use Rattle.top_call.proofs.laws.records_are_judged_yes.Goals as goal

pub returns : goal.returns
returns c = records_are_judged_yes
