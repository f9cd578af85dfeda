use Rattle.std.proofs.Common.{◌≡◌, ◌≤◌, ◌+◌, ◌*◌, ◌++◌, vec_len}
use Rattle.std.specs.Prelude.{codes}
use Rattle.map_gen.specs.Make.{cell_text}
use Rattle.map_gen.proofs.Lists.{left}
use Rattle.map_gen.proofs.lattice.Lattice.write_cells.Given as goal

abbrev pub invariant-loop-cell : goal.invariant-loop-cell
invariant-loop-cell l = record {
  value : l.out.items ++ left (cell_text l.self.rows l.self.cols) l.cell (l.self.rows * l.self.cols) ≡ l.fn.out.items ++ codes "["
      ++ cell_text l.self.rows l.self.cols 0 ++ left (cell_text l.self.rows l.self.cols) 1 (l.self.rows * l.self.cols);
  short : vec_len l.out ≤ vec_len l.fn.out + 100 * l.cell;
}
