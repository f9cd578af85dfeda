-- The law is a lemma.
use Rattle.monotone_split.proofs.EdgeLaws.{edge_keeps_side}
use Rattle.monotone_split.proofs.laws.edge_keeps_side.Goals as goal

pub returns : goal.returns
returns c = edge_keeps_side
