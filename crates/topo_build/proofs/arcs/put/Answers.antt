use Rattle.indexmap.specs.IndexMap.{get}
use Rattle.std.proofs.Common.{arith}
use Rattle.topo_build.specs.Table.{same_edge}
use Rattle.topo_build.proofs.Listing.{put-more}
use Rattle.topo_build.proofs.arcs.put.Goals as goal

pub loop-k-preserved : goal.loop-k-preserved
loop-k-preserved c = put-more c.args.walk.now c.loop-k.k c.args.number c.index-walk-k.result c.index-walk-k-in-loop-k.result
    (get same_edge c.args.edges.now) (get same_edge c.loop-k.edges) (get same_edge c.insert.new.self)
    c.loop-k.auto.k (omega arith) c.index-walk-k.is c.index-walk-k-in-loop-k.is c.in_ok-insert.ensures.updates.0 c.loop-k.invariant
