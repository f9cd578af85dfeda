-- The law is a lemma.
use Rattle.monotone_split.proofs.EdgeLaws.{edge_meets_shortcut_once}
use Rattle.monotone_split.proofs.laws.edge_meets_shortcut_once.Goals as goal

pub returns : goal.returns
returns c = edge_meets_shortcut_once
