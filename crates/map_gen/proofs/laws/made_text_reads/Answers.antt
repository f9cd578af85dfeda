use Rattle.map_gen.proofs.ReadsWhole.{made-reads}
use Rattle.map_gen.proofs.laws.made_text_reads.Goals as goal

pub returns : goal.returns
returns c = made-reads
