use Rattle.std.proofs.Common.{◌≡◌, ◌*◌, ◌≤◌, take}
use Rattle.chain_replace.specs.Rooms.{vertices_in}
use Rattle.chain_replace.proofs.run.vertex_count.Given as goal

abbrev pub invariant-loop-k : goal.invariant-loop-k
invariant-loop-k l = (l.count ≡ vertices_in (take l.k l.work.chains)) × (l.count ≤ 1024 * l.k)
