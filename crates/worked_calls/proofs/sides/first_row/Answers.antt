-- The chains of an arranged map are clear.
use Rattle.worked_calls.proofs.OneBump.{clear_of}
use Rattle.worked_calls.proofs.sides.first_row.Goals as goal

pub consistent_from-requires-clause-clear : goal.consistent_from-requires-clause-clear
consistent_from-requires-clause-clear c = clear_of c.args.map c.in_ok-chains.chains.items c.in_ok-map.map 0 c.in_ok-chains.ensures.chains
    c.in_ok-map.ensures c.requires
