-- Each chain so far has at most 1024 vertices.
use Rattle.std.proofs.Common.{◌*◌, ◌≤◌}
use Rattle.map_index.proofs.listing.vertex_count.Given as goal

abbrev pub invariant-loop-k : goal.invariant-loop-k
invariant-loop-k l = l.count ≤ 1024 * l.k
