-- The law is a lemma.
use Rattle.monotone_split.proofs.EdgeLaws.{edge_misses_shortcut}
use Rattle.monotone_split.proofs.laws.edge_misses_shortcut.Goals as goal

pub returns : goal.returns
returns c = edge_misses_shortcut
