-- The law is a lemma on the edges of a map by their names.
use Rattle.monotone_split.proofs.Named.{arranged_by_names}
use Rattle.monotone_split.proofs.laws.arranged_by_names.Goals as goal

pub returns : goal.returns
returns c = arranged_by_names
