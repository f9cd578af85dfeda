use Rattle.std.proofs.Common.{◌≡◌, ◌≤◌, ◌+◌, ◌*◌, ◌++◌, vec_len}
use Rattle.std.specs.Prelude.{codes}
use Rattle.map_gen.proofs.Lists.{left, position_text_at}
use Rattle.map_gen.proofs.lattice.Lattice.write_arc.Given as goal

abbrev pub invariant-loop-k : goal.invariant-loop-k
invariant-loop-k l = record {
  value : l.out.items ++ left (position_text_at l.self.rows l.self.cols l.self.seed l.arc) l.k 9 ≡ l.fn.out.items ++ codes "["
      ++ position_text_at l.self.rows l.self.cols l.self.seed l.arc 0
      ++ left (position_text_at l.self.rows l.self.cols l.self.seed l.arc) 1 9;
  short : vec_len l.out ≤ vec_len l.fn.out + 26 * l.k;
}
