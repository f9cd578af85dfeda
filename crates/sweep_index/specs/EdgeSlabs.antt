-- What the slabs of a map give.
use Rattle.std.specs.Prelude.{◌/◌, ℤ, List}
use Rattle.grid_exact.specs.Geometry.{IsGridNumber}
use Rattle.arc_map.specs.Map.{Map}
use Rattle.arc_map.specs.Arranged.{IsMapEdge, edge_start, edge_end}
use Rattle.arc_map.specs.declared.refs.EdgeRef.{EdgeRef}
use Rattle.sweep_index.specs.Offsets.{offset_of}
use Rattle.sweep_index.specs.Slabs.{AreEdgesAt, edges_at, slab_of}
use Rattle.sweep_index.specs.declared.slabs.EdgeSlabs.{EdgeSlabs}

-- the edges in the slab of x whose x range holds x
abbrev pub edges_of : EdgeSlabs → ℤ → List EdgeRef
edges_of slabs x = edges_at (offset_of x) (slab_of (offset_of x / slabs.width) slabs.edges.items)

-- the edges of the map end on the grid, and the slabs give just those whose x range holds an x, for each x of the grid
pub record AreSlabsOf (m : Map) (slabs : EdgeSlabs) : Type 0 where
  pub on_grid : (e : EdgeRef) → IsMapEdge m e → IsGridNumber (edge_start m e).x × IsGridNumber (edge_end m e).x
  pub given : (x : ℤ) → IsGridNumber x → AreEdgesAt m x (edges_of slabs x)
