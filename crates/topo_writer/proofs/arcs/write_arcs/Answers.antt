use Rattle.std.proofs.Common.{◌≡◌, ◌≤◌, ◌+◌, ◌*◌, ◌^◌, length, vec_len, sum_by, drop, ap, arith}
use Rattle.topo_writer.proofs.Left.{lengths-at}
use Rattle.topo_writer.proofs.arcs.write_arcs.Goals as goal
use Rattle.topo_writer.proofs.arcs.write_arcs.Goals.{then-arc_count-gt0+in_ok-write_arc+in_ok-write_later_arcs, else-arc_count-gt0}

pub returns-clause-short : goal.returns-clause-short
returns-clause-short c =
    let opened : vec_len c.push.new.self ≡ vec_len c.args.out.now + 1 = c.in_ok-push.ensures.len in
    let closed : vec_len c.push-2.new.self ≡ vec_len c.if-arc_count-gt0.out + 1 = c.in_ok-push-2.ensures.len in
    let written : vec_len c.if-arc_count-gt0.out ≤ vec_len c.push.new.self + 54 * 2 ^ 20 = elim c.if-arc_count-gt0.branch [
      | then-arc_count-gt0+in_ok-write_arc+in_ok-write_later_arcs w ↦
          let lengths = lengths-at c.args.topology.now.arcs 0 w.arc.result.now w.arc.ensures.value in
          let first : vec_len w.write_arc.new.out ≤ vec_len c.push.new.self + 53 * length w.arc.result.now =
          w.in_ok-write_arc.ensures.short in
          let later : vec_len w.write_later_arcs.new.out ≤ vec_len w.write_arc.new.out + 54 * sum_by length
          (drop 1 c.args.topology.now.arcs) = w.in_ok-write_later_arcs.ensures.short in
          let same : vec_len c.if-arc_count-gt0.out ≡ vec_len w.write_later_arcs.new.out = ap vec_len w.out-is in
          let few : sum_by length (drop 0 c.args.topology.now.arcs) ≤ 2 ^ 20 = c.arc_count.ensures.is_map.few_positions in
          omega (arith, lengths, first, later, same, few)
      | else-arc_count-gt0 w ↦ let same : vec_len c.if-arc_count-gt0.out ≡ vec_len c.push.new.self = ap vec_len w.out-is in
          omega (arith, same)
    ] in
    omega (arith, opened, closed, written)
