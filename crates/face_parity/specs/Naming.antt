-- Which polygons name an arc, and in which parts of theirs.
use Rattle.std.specs.Prelude.{◌≡◌, ◌<◌, ◌≤◌, ◌==◌, ◌&&◌, nat_le, ℕ, Bool, List, length, filter, map, slice_index}
use Rattle.std.specs.Prelude.{slice_index_or, All}
use Rattle.grid_exact.specs.Geometry.{Place, IsOnGrid}
use Rattle.arc_map.specs.Map.{Map}
use Rattle.arc_map.specs.Arcs.{is_inside, is_inside_of}
use Rattle.sweep_index.specs.Offsets.{offset_of}
use Rattle.face_parity.specs.declared.namings.Naming.{Naming}

-- that the polygon names the arc, in a part with this floor
abbrev pub named_by : ℕ → ℕ → ℕ → Naming
named_by polygon floor arc = record { arc = arc; polygon = polygon; floor = floor }

-- whether the naming is by this polygon, in a part whose floor is not above y
abbrev pub is_by : ℕ → ℕ → Naming → Bool
is_by y polygon n = (n.polygon == polygon) && nat_le n.floor y

-- the arcs that the polygon names in parts whose floor is not above y
abbrev pub refs_over : List Naming → ℕ → ℕ → List ℕ
refs_over ns y polygon = map (λ n. n.arc) (filter (is_by y polygon) ns)

-- the namings before the start are of arcs below this one, and the others are not
pub record IsStartOf (namings : List Naming) (arc start : ℕ) : Type 0 where
  pub within : start ≤ length namings
  pub before : (k : ℕ) (d : Naming) → k < start → (slice_index_or namings k d).arc < arc
  pub after : (k : ℕ) (d : Naming) → start ≤ k → k < length namings → arc ≤ (slice_index_or namings k d).arc

-- a point of the grid is in the polygon where it is in the parts whose floor is not above it
abbrev pub IsTold : Map → List Naming → ℕ → Type 0
IsTold m ns polygon = (p : Place) → IsOnGrid p → is_inside_of p m.arcs (refs_over ns (offset_of p.y) polygon) ≡ is_inside p m polygon

-- these are the namings by the first polygons of the map, so many
pub record AreNamingsTo (m : Map) (count : ℕ) (ns : List Naming) : Type 0 where
  pub below : All (λ n. n.polygon < count) ns
  pub told : (polygon : ℕ) → polygon < count → IsTold m ns polygon

-- these are the namings of arcs by the polygons of the map
abbrev pub AreNamings : Map → List Naming → Type 0
AreNamings m ns = AreNamingsTo m (length m.polygons) ns

-- the floor of an arc is not above those of its namings
abbrev pub AreUnder : List ℕ → List Naming → Type 0
AreUnder floors ns = All (λ n. slice_index floors n.arc ≤ n.floor) ns
