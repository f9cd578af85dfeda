-- The law is a lemma.
use Rattle.chain_side.proofs.Outside.{one_edge_spans}
use Rattle.chain_side.proofs.laws.one_edge_spans.Goals as goal

pub returns : goal.returns
returns c = one_edge_spans
