-- The table has an arc with the edge in one of its directions, or none.
use Rattle.std.proofs.Common.{sym}
use Rattle.indexmap.specs.IndexMap.{get}
use Rattle.topo_build.specs.Table.{arcs_in, same_edge}
use Rattle.topo_build.proofs.Listing.{along-backwards, along-forwards, along-none}
use Rattle.topo_build.proofs.arcs.Arcs.along.Goals as goal

pub returns-in-Some : goal.returns-in-Some
returns-in-Some c = along-forwards (arcs_in c.args.self.now) (get same_edge c.args.self.now.edges) c.args.start c.args.end c.in-Some.arc
    c.requires (sym c.in-Some.ensures)

pub returns-in-Some-arc_with : goal.returns-in-Some-arc_with
returns-in-Some-arc_with c = along-backwards (arcs_in c.args.self.now) (get same_edge c.args.self.now.edges) c.args.start c.args.end
    c.in-Some-arc_with.arc c.requires (sym c.in-Some-arc_with.ensures)

pub returns-in-None-arc_with : goal.returns-in-None-arc_with
returns-in-None-arc_with c = along-none (arcs_in c.args.self.now) (get same_edge c.args.self.now.edges) c.args.start c.args.end c.requires
    (sym c.in-None.ensures) (sym c.in-None-arc_with.ensures)
