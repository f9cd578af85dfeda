use Rattle.geo_text.proofs.TopologyWritten.{built-reads}
use Rattle.geo_text.proofs.laws.built_text_reads.Goals as goal

pub returns : goal.returns
returns c = built-reads
