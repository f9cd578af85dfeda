use Rattle.std.proofs.Common.{◌≡◌, ◌≤◌, ◌+◌, ◌*◌, ◌++◌, vec_len}
use Rattle.std.specs.Prelude.{codes}
use Rattle.map_gen.specs.Make.{wavy_text, arc_count}
use Rattle.map_gen.proofs.Lists.{left}
use Rattle.map_gen.proofs.lattice.Lattice.write_arcs.Given as goal

abbrev pub invariant-loop-arc : goal.invariant-loop-arc
invariant-loop-arc l = record {
  value : l.out.items ++ left (wavy_text l.self.rows l.self.cols l.self.seed) l.arc (arc_count l.self.rows l.self.cols) ≡ l.fn.out.items
      ++ codes "[" ++ wavy_text l.self.rows l.self.cols l.self.seed 0
      ++ left (wavy_text l.self.rows l.self.cols l.self.seed) 1 (arc_count l.self.rows l.self.cols);
  short : vec_len l.out ≤ vec_len l.fn.out + 237 * l.arc;
}
