-- The law is a lemma on the lengths of records.
use Rattle.top_call.proofs.ShortCertificates.{certified_is_short}
use Rattle.top_call.proofs.laws.certified_is_short.Goals as goal

pub returns : goal.returns
returns c = certified_is_short
