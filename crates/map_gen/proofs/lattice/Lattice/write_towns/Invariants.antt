use Rattle.std.proofs.Common.{◌≡◌, ◌≤◌, ◌+◌, ◌*◌, ◌++◌, vec_len}
use Rattle.std.specs.Prelude.{codes}
use Rattle.map_gen.specs.Make.{town_text, across_count}
use Rattle.map_gen.proofs.Lists.{left}
use Rattle.map_gen.proofs.lattice.Lattice.write_towns.Given as goal

abbrev pub invariant-loop-arc : goal.invariant-loop-arc
invariant-loop-arc l = record {
  value : l.out.items ++ left (town_text l.self.rows l.self.cols l.self.seed) l.arc (across_count l.self.rows l.self.cols) ≡ l.fn.out.items
      ++ codes "[" ++ town_text l.self.rows l.self.cols l.self.seed 0
      ++ left (town_text l.self.rows l.self.cols l.self.seed) 1 (across_count l.self.rows l.self.cols);
  short : vec_len l.out ≤ vec_len l.fn.out + 26 * l.arc;
}
