-- The next arc is no longer among the others.
use Rattle.std.proofs.Common.{arith}
use Rattle.topo_writer.proofs.Left.{lengths-at}
use Rattle.top_call.proofs.demo.position_count.Goals as goal

pub loop-arc-preserved : goal.loop-arc-preserved
loop-arc-preserved c =
    omega (arith, c.loop-arc.invariant, lengths-at c.args.map.now.arcs c.loop-arc.arc c.arc.result.now c.arc.ensures.value)
