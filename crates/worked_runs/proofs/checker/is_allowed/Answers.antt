-- The vertices are those of the chain.
use Rattle.std.proofs.Common.{subst}
use Rattle.std.specs.Prelude.{All}
use Rattle.grid_exact.specs.Weights.{StaysOnGrid}
use Rattle.worked_runs.proofs.checker.is_allowed.Goals as goal

pub allowed-requires-clause-on_grid : goal.allowed-requires-clause-on_grid
allowed-requires-clause-on_grid c = subst (All (StaysOnGrid c.args.weights)) c.chain-2.ensures.places c.in-None.ensures
