use Rattle.std.proofs.Common.{◌≡◌, ◌≤◌, ◌+◌, ◌*◌, ◌++◌, drop, length, vec_len, sum_by}
use Rattle.topo_writer.proofs.Left.{arcs_left}
use Rattle.topo_writer.proofs.arcs.write_later_arcs.Given as goal

abbrev pub invariant-loop-k : goal.invariant-loop-k
invariant-loop-k l = record {
  value : l.out.items ++ arcs_left l.topology.coded (drop l.k l.topology.arcs) ≡ l.fn.out.items
      ++ arcs_left l.topology.coded (drop 1 l.topology.arcs);
  short : vec_len l.out + 54 * sum_by length (drop l.k l.topology.arcs) ≤ vec_len l.fn.out + 54 * sum_by length (drop 1 l.topology.arcs);
}
