use Rattle.std.proofs.Common.{◌≡◌, ◌≤◌, ◌+◌, ◌*◌, ◌++◌, drop, vec_len}
use Rattle.topo_writer.proofs.Left.{later_text}
use Rattle.topo_writer.proofs.arcs.write_positions.Given as goal

abbrev pub invariant-loop-p : goal.invariant-loop-p
invariant-loop-p l = record {
  value : l.out.items ++ later_text l.coded l.before (drop l.p-index l.rest) ≡ l.fn.out.items ++ later_text l.coded l.fn.first l.rest;
  short : vec_len l.out ≤ vec_len l.fn.out + 26 * l.p-index;
}
