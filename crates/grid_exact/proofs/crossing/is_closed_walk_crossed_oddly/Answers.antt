-- The walk is closed by the edge from its end to its first point.
use Rattle.std.proofs.Common.{sym}
use Rattle.grid_exact.specs.Crossing.{is_crossed}
use Rattle.grid_exact.proofs.Walks.{is_odd-pushed}
use Rattle.grid_exact.proofs.crossing.is_closed_walk_crossed_oddly.Goals as goal

pub returns : goal.returns
returns c =
    rw (c.exactly_one.ensures, c.is_walk_crossed_oddly.ensures, c.is_edge_crossed.ensures, c.walk_end.ensures)
    (sym (is_odd-pushed (is_crossed c.args.p) c.args.first c.args.rest.now c.args.first))
