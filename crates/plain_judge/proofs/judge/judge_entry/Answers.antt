-- The vertices are those of the chain.
use Rattle.std.proofs.Common.{subst}
use Rattle.std.specs.Prelude.{All}
use Rattle.grid_exact.specs.Weights.{StaysOnGrid}
use Rattle.plain_judge.proofs.judge.judge_entry.Goals as goal

pub thinned_or_refused-requires-clause-on_grid : goal.thinned_or_refused-requires-clause-on_grid
thinned_or_refused-requires-clause-on_grid c = subst (All (StaysOnGrid c.args.demand.now.weights)) c.chain.ensures.places c.in-None.ensures
