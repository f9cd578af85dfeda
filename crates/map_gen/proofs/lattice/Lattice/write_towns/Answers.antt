use Rattle.std.proofs.Common.{◌≡◌, ℕ, List, ◌<◌, ◌≤◌, ◌+◌, vec_len, arith}
use Rattle.topo_writer.proofs.Left.{goes-on}
use Rattle.map_gen.specs.Make.{town_text, across_count}
use Rattle.map_gen.proofs.Lists.{left, left-at, list-done}
use Rattle.map_gen.proofs.lattice.Lattice.write_towns.Goals as goal

pub loop-arc-preserved : goal.loop-arc-preserved
loop-arc-preserved c =
    let f : ℕ → List ℕ = town_text c.args.self.now.rows c.args.self.now.cols c.args.self.now.seed in
    let n = (across_count c.args.self.now.rows c.args.self.now.cols) in
    let before : c.loop-arc.arc < n = omega (arith, c.across_count-arc-end.ensures.value) in
    let here = left-at f c.loop-arc.arc n before in
    let pushed : vec_len c.push-in-loop-arc.new.self ≡ vec_len c.loop-arc.out + 1 = c.in_ok-push-2.ensures.len in
    let wrote : vec_len c.write_town-in-loop-arc.new.out ≤ vec_len c.push-in-loop-arc.new.self + 25 = c.in_ok-write_town-2.ensures.short in
    record {
      value = goes-on c.loop-arc.out.items c.push-in-loop-arc.new.self.items c.write_town-in-loop-arc.new.out.items (f c.loop-arc.arc)
          (left f c.loop-arc.arc n) (left f (c.loop-arc.arc + 1) n) _ c.in_ok-push-2.ensures.items c.in_ok-write_town-2.ensures.value here
          c.loop-arc.invariant.value;
      short = omega (arith, pushed, wrote, c.loop-arc.invariant.short);
    }

pub returns-clause-value : goal.returns-clause-value
returns-clause-value c =
    let f : ℕ → List ℕ = town_text c.args.self.now.rows c.args.self.now.cols c.args.self.now.seed in
    let n = (across_count c.args.self.now.rows c.args.self.now.cols) in
    let some : 0 < n = omega (arith, c.across_count-arc-end.ensures.value, c.across_count-arc-end.ensures.some) in
    let past : n ≤ c.loop-arc.arc = omega (arith, c.across_count-arc-end.ensures.value) in
    list-done f c.loop-arc.arc n c.args.out.now.items c.loop-arc.out.items c.push-2.new.self.items some past c.loop-arc.invariant.value
    c.in_ok-push-3.ensures.items
