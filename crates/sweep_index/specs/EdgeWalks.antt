-- What the walks over an index of edges still give.
use Rattle.std.specs.Prelude.{ℕ, List}
use Rattle.arc_map.specs.declared.refs.EdgeRef.{EdgeRef}
use Rattle.sweep_index.specs.Sweeping.{meetings_left}
use Rattle.sweep_index.specs.Pairs.{pairs_in, towns_in}
use Rattle.sweep_index.specs.declared.edges.PairWalk.{PairWalk}
use Rattle.sweep_index.specs.declared.edges.TownWalk.{TownWalk}

abbrev pub pairs_left : PairWalk → List (EdgeRef × EdgeRef)
pairs_left w = pairs_in (meetings_left w.sweep)

abbrev pub towns_left : TownWalk → List (ℕ × EdgeRef)
towns_left w = towns_in (meetings_left w.sweep)
