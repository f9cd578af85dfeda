-- What a walk over the edges at one x still gives.
use Rattle.std.specs.Prelude.{List}
use Rattle.arc_map.specs.declared.refs.EdgeRef.{EdgeRef}
use Rattle.sweep_index.specs.Slabs.{edges_at}
use Rattle.sweep_index.specs.declared.slabs.EdgeWalk.{EdgeWalk}

abbrev pub edges_left : EdgeWalk → List EdgeRef
edges_left w = edges_at w.x w.rest.now
