use Rattle.std.proofs.Common.{◌≡◌, ℕ, List, ◌≤◌, ◌+◌, vec_len, arith}
use Rattle.topo_writer.proofs.Left.{goes-on}
use Rattle.map_gen.proofs.Lists.{left, left-at, list-done, position_text_at, wavy-list}
use Rattle.map_gen.proofs.lattice.Lattice.write_arc.Goals as goal

pub loop-k-preserved : goal.loop-k-preserved
loop-k-preserved c =
    let f : ℕ → List ℕ = position_text_at c.args.self.now.rows c.args.self.now.cols c.args.self.now.seed c.args.arc in
    let n : ℕ = 9 in
    let here = left-at f c.loop-k.k n c.loop-k-test.true in
    let pushed : vec_len c.push-in-loop-k.new.self ≡ vec_len c.loop-k.out + 1 = c.in_ok-push-2.ensures.len in
    let wrote : vec_len c.write_arc_position-in-loop-k.new.out ≤ vec_len c.push-in-loop-k.new.self + 25 =
    c.in_ok-write_arc_position-2.ensures.short in
    record {
      value = goes-on c.loop-k.out.items c.push-in-loop-k.new.self.items c.write_arc_position-in-loop-k.new.out.items (f c.loop-k.k)
          (left f c.loop-k.k n) (left f (c.loop-k.k + 1) n) _ c.in_ok-push-2.ensures.items c.in_ok-write_arc_position-2.ensures.value here
          c.loop-k.invariant.value;
      short = omega (arith, pushed, wrote, c.loop-k.invariant.short);
    }

pub returns-clause-value : goal.returns-clause-value
returns-clause-value c =
    let f : ℕ → List ℕ = position_text_at c.args.self.now.rows c.args.self.now.cols c.args.self.now.seed c.args.arc in
    let n : ℕ = 9 in
    rw (wavy-list c.args.self.now.rows c.args.self.now.cols c.args.self.now.seed c.args.arc)
    (list-done f c.loop-k.k n c.args.out.now.items c.loop-k.out.items c.push-2.new.self.items (omega arith) (omega arith)
    c.loop-k.invariant.value c.in_ok-push-3.ensures.items)
