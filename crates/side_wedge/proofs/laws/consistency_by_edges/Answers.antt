use Rattle.side_wedge.proofs.ByEdges.{consistency_by_edges_lem}
use Rattle.side_wedge.proofs.laws.consistency_by_edges.Goals as goal

pub returns : goal.returns
returns c = consistency_by_edges_lem
