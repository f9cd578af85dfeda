-- The parity so far and that of the rest make up that of the whole.
use Rattle.std.proofs.Common.{◌≡◌, drop}
use Rattle.grid_exact.specs.Walks.{count_edges, is_odd, differ}
use Rattle.grid_exact.specs.Crossing.{is_crossed}
use Rattle.grid_exact.proofs.crossing.is_walk_crossed_oddly.Given as goal

abbrev pub invariant-loop-q : goal.invariant-loop-q
invariant-loop-q l = differ l.odd (is_odd (count_edges (is_crossed l.p) l.before (drop l.q-index l.rest)))
    ≡ is_odd (count_edges (is_crossed l.p) l.fn.first l.rest)
