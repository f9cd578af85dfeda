use Rattle.std.proofs.Common.{rules, append_assoc}
use Rattle.topo_writer.proofs.Left.{arc-parts}
use Rattle.topo_writer.proofs.arcs.write_arc.Goals as goal

pub returns-clause-value : goal.returns-clause-value
returns-clause-value c =
    let parts = arc-parts c.args.coded c.args.arc.now c.following-rest.result.now c.index-arc-0.result c.requires c.index-arc-0.is
    c.following-rest.ensures.one c.following-rest.ensures.more in
    rw parts (search (rules, append_assoc))
