use Rattle.topo_writer.proofs.ReadsBack.{reads-back}
use Rattle.topo_writer.proofs.laws.spliced_reads_back.Goals as goal

pub returns : goal.returns
returns c = reads-back
