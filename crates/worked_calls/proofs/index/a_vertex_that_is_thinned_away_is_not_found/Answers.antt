-- The ends of the long chain are kept.
use Rattle.arc_map.specs.Chains.{chain_at}
use Rattle.worked_calls.proofs.RisingArcs.{ends_are_kept}
use Rattle.worked_calls.proofs.index.a_vertex_that_is_thinned_away_is_not_found.Goals as goal

pub thin-requires-clause-kept : goal.thin-requires-clause-kept
thin-requires-clause-kept g c = ends_are_kept (chain_at c.in_ok-map.map.chains 0) c.in_ok-map.ensures.long
