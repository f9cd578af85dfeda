use Rattle.std.proofs.Common.{◌≡◌, ◌≤◌, ◌+◌, ◌*◌, ◌++◌, drop, length, vec_len, subst, arith}
use Rattle.arc_map.proofs.Finishing.{has_position}
use Rattle.topo_writer.specs.ArcsText.{arc_text}
use Rattle.topo_writer.proofs.Left.{arcs_left, arcs-at, lengths-at, goes-on}
use Rattle.topo_writer.proofs.arcs.write_later_arcs.Goals as goal

pub loop-k-preserved : goal.loop-k-preserved
loop-k-preserved c =
    let coded = c.args.topology.now.coded in
    let arcs = c.args.topology.now.arcs in
    let more = arcs_left coded (drop (c.loop-k.k + 1) arcs) in
    let part = arc_text coded c.arc.result.now in
    let here = arcs-at coded arcs c.loop-k.k c.arc.result.now c.arc.ensures.value in
    let written : c.write_arc.new.out.items ≡ c.push.new.self.items ++ part =
    subst (λ b. c.write_arc.new.out.items ≡ c.push.new.self.items ++ arc_text b c.arc.result.now) c.coded.ensures
    c.in_ok-write_arc.ensures.value in
    let lengths = lengths-at arcs c.loop-k.k c.arc.result.now c.arc.ensures.value in
    let pushed : vec_len c.push.new.self ≡ vec_len c.loop-k.out + 1 = c.in_ok-push.ensures.len in
    let wrote : vec_len c.write_arc.new.out ≤ vec_len c.push.new.self + 53 * length c.arc.result.now = c.in_ok-write_arc.ensures.short in
    let some = has_position c.arc.result.now c.arc.ensures.is_arc in
    record {
      value = goes-on c.loop-k.out.items c.push.new.self.items c.write_arc.new.out.items part (arcs_left coded (drop c.loop-k.k arcs)) more
          (c.args.out.now.items ++ arcs_left coded (drop 1 arcs)) c.in_ok-push.ensures.items written here c.loop-k.invariant.value;
      short = omega (arith, lengths, pushed, wrote, some, c.loop-k.invariant.short);
    }
