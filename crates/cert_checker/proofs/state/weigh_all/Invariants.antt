use Rattle.std.proofs.Common.{◌≡◌, ◌≤◌, map, take, vec_len, vec_capacity}
use Rattle.grid_exact.specs.Near.{weighted}
use Rattle.cert_checker.proofs.state.weigh_all.Given as goal

abbrev pub invariant-loop-p : goal.invariant-loop-p
invariant-loop-p l = record {
  items : l.weighed.items ≡ map (weighted l.weights.x l.weights.y) (take l.p-index l.points);
  count : vec_len l.weighed ≡ l.p-index;
  room : vec_capacity l.fn.weighed ≤ vec_capacity l.weighed;
}
