-- The law is a lemma on what a run writes.
use Rattle.top_call.proofs.ReadBack.{simplified_reads_back}
use Rattle.top_call.proofs.laws.simplified_reads_back.Goals as goal

pub returns : goal.returns
returns c = simplified_reads_back
