-- The law is a lemma.
use Rattle.monotone_split.proofs.RunsBeside.{clear_runs_are_beside}
use Rattle.monotone_split.proofs.laws.clear_runs_are_beside.Goals as goal

pub returns : goal.returns
returns c = clear_runs_are_beside
