-- Edges in slabs of x.
use Rattle.std.specs.Prelude.{◌≡◌, ◌≢◌, ◌/◌, ◌==◌, ◌&&◌, min, max, nat_le, ℕ, ℤ, Bool, List, All, AllPairs, Contains, map, filter}
use Rattle.grid_exact.specs.Geometry.{IsBetween, IsGridNumber}
use Rattle.arc_map.specs.Map.{Map}
use Rattle.arc_map.specs.Arranged.{IsMapEdge, edge_start, edge_end}
use Rattle.arc_map.specs.declared.refs.EdgeRef.{EdgeRef}
use Rattle.sweep_index.specs.Gathered.{AreGathered}
use Rattle.sweep_index.specs.Offsets.{offset_of}
use Rattle.sweep_index.specs.Things.{IsEdgeBefore}
use Rattle.sweep_index.specs.declared.slabs.Slabbed.{Slabbed}

-- an edge of the map whose x range holds x
pub record IsEdgeAt (m : Map) (x : ℤ) (e : EdgeRef) : Type 0 where
  pub edge : IsMapEdge m e
  pub across : IsBetween (edge_start m e).x (edge_end m e).x x

-- these are the edges of the map whose x range holds x, each once
pub record AreEdgesAt (m : Map) (x : ℤ) (edges : List EdgeRef) : Type 0 where
  pub only : All (IsEdgeAt m x) edges
  pub all : (e : EdgeRef) → IsEdgeAt m x e → Contains edges e
  pub once : AllPairs (λ e f. e ≢ f) edges

-- whether the edge's x range holds x
abbrev pub is_at : ℕ → Slabbed → Bool
is_at x s = nat_le s.west x && nat_le x s.east

-- the edges whose x range holds x
abbrev pub edges_at : ℕ → List Slabbed → List EdgeRef
edges_at x edges = map (λ s. s.edge) (filter (is_at x) edges)

-- the edges in one slab
abbrev pub slab_of : ℕ → List Slabbed → List Slabbed
slab_of slab edges = filter (λ s. s.slab == slab) edges

-- the x range is that of the edge
pub record IsSlabbedOf (m : Map) (s : Slabbed) : Type 0 where
  pub start_on_grid : IsGridNumber (edge_start m s.edge).x
  pub end_on_grid : IsGridNumber (edge_end m s.edge).x
  pub west : s.west ≡ min (offset_of (edge_start m s.edge).x) (offset_of (edge_end m s.edge).x)
  pub east : s.east ≡ max (offset_of (edge_start m s.edge).x) (offset_of (edge_end m s.edge).x)

-- the edge, and its slab
abbrev pub place_of : Slabbed → EdgeRef × ℕ
place_of s = (s.edge, s.slab)

-- the first and the last slab that the edge reaches
abbrev pub first_slab : Map → ℕ → EdgeRef → ℕ
first_slab m width e = min (offset_of (edge_start m e).x) (offset_of (edge_end m e).x) / width

abbrev pub last_slab : Map → ℕ → EdgeRef → ℕ
last_slab m width e = max (offset_of (edge_start m e).x) (offset_of (edge_end m e).x) / width

-- these are the edges of the map before this place of this arc, in each slab that their x ranges reach, each once
abbrev pub AreEdgesBefore : Map → ℕ → ℕ → ℕ → List Slabbed → Type 0
AreEdgesBefore m width arc at edges = AreGathered place_of (IsSlabbedOf m) (λ e. IsMapEdge m e × IsEdgeBefore arc at e) (first_slab m width)
    (last_slab m width) edges

-- these are the edges of the map, in each slab that their x ranges reach, each once
abbrev pub AreEdgesOf : Map → ℕ → List Slabbed → Type 0
AreEdgesOf m width edges = AreGathered place_of (IsSlabbedOf m) (IsMapEdge m) (first_slab m width) (last_slab m width) edges
