use Rattle.std.proofs.Common.{◌≡◌, ℕ, List, ◌<◌, ◌≤◌, ◌+◌, ◌*◌, vec_len, arith}
use Rattle.topo_writer.proofs.Left.{goes-on}
use Rattle.map_gen.specs.Make.{cell_text}
use Rattle.map_gen.proofs.Lists.{left, left-at, list-done}
use Rattle.map_gen.proofs.lattice.Lattice.write_cells.Goals as goal

pub loop-cell-preserved : goal.loop-cell-preserved
loop-cell-preserved c =
    let f : ℕ → List ℕ = cell_text c.args.self.now.rows c.args.self.now.cols in
    let n = (c.args.self.now.rows * c.args.self.now.cols) in
    let before : c.loop-cell.cell < n = omega (arith, c.cell_count-cell-end.ensures.value) in
    let here = left-at f c.loop-cell.cell n before in
    let pushed : vec_len c.push-in-loop-cell.new.self ≡ vec_len c.loop-cell.out + 1 = c.in_ok-push-2.ensures.len in
    let wrote : vec_len c.write_cell-in-loop-cell.new.out ≤ vec_len c.push-in-loop-cell.new.self + 99 =
    c.in_ok-write_cell-2.ensures.short in
    record {
      value = goes-on c.loop-cell.out.items c.push-in-loop-cell.new.self.items c.write_cell-in-loop-cell.new.out.items (f c.loop-cell.cell)
          (left f c.loop-cell.cell n) (left f (c.loop-cell.cell + 1) n) _ c.in_ok-push-2.ensures.items c.in_ok-write_cell-2.ensures.value
          here c.loop-cell.invariant.value;
      short = omega (arith, pushed, wrote, c.loop-cell.invariant.short);
    }

pub returns-clause-value : goal.returns-clause-value
returns-clause-value c =
    let f : ℕ → List ℕ = cell_text c.args.self.now.rows c.args.self.now.cols in
    let n = (c.args.self.now.rows * c.args.self.now.cols) in
    let some : 0 < n = omega (arith, c.cell_count-cell-end.ensures.value, c.cell_count-cell-end.ensures.some) in
    let past : n ≤ c.loop-cell.cell = omega (arith, c.cell_count-cell-end.ensures.value) in
    list-done f c.loop-cell.cell n c.args.out.now.items c.loop-cell.out.items c.push-2.new.self.items some past c.loop-cell.invariant.value
    c.in_ok-push-3.ensures.items
