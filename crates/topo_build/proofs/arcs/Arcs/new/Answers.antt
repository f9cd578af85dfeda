use Rattle.std.proofs.Common.{ap}
use Rattle.std.specs.Map.{lookup}
use Rattle.indexmap.specs.IndexMap.{get}
use Rattle.topo_build.specs.Table.{same_edge}
use Rattle.topo_build.proofs.Listing.{listed-none}
use Rattle.topo_build.proofs.arcs.Arcs.new.Goals as goal

pub returns-clause-table : goal.returns-clause-table
returns-clause-table c = rw c.new.ensures.items (listed-none (get same_edge c.new-2.result) (λ e.
    ap (lookup (same_edge e)) c.new-2.ensures.empty))
