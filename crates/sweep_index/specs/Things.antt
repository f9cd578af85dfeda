-- Edges and feature points of a map with the boxes round them, and the bands of y that the boxes reach.
use Rattle.std.specs.Prelude.{◌≡◌, ◌⊎◌, ◌+◌, ◌*◌, ◌/◌, ◌^◌, ◌<◌, ◌≤◌, min, max, ℕ, List, length, get_or}
use Rattle.grid_exact.specs.Geometry.{Place, IsOnGrid}
use Rattle.arc_map.specs.Map.{Map}
use Rattle.arc_map.specs.Arranged.{IsMapEdge, edge_start, edge_end, nowhere}
use Rattle.arc_map.specs.declared.refs.EdgeRef.{EdgeRef}
use Rattle.sweep_index.specs.Gathered.{AreGathered}
use Rattle.sweep_index.specs.Offsets.{offset_of}
use Rattle.sweep_index.specs.declared.things.Thing.{Thing}
use Rattle.sweep_index.specs.declared.things.Thing.TheVariants.{Edge, Town}
use Rattle.sweep_index.specs.declared.things.Extent.{Extent}
use Rattle.sweep_index.specs.declared.things.Banded.{Banded}

abbrev pub IsThingOf : Map → Thing → Type 0
IsThingOf m (Edge e) = IsMapEdge m e
IsThingOf m (Town k) = k < length m.points

-- where the thing begins and ends
abbrev pub thing_start : Map → Thing → Place
thing_start m (Edge e) = edge_start m e
thing_start m (Town k) = get_or m.points k nowhere

abbrev pub thing_end : Map → Thing → Place
thing_end m (Edge e) = edge_end m e
thing_end m (Town k) = get_or m.points k nowhere

-- the extent is the box round two places of the grid
pub record IsRound (a b : Place) (extent : Extent) : Type 0 where
  pub start_on_grid : IsOnGrid a
  pub end_on_grid : IsOnGrid b
  pub west : extent.west ≡ min (offset_of a.x) (offset_of b.x)
  pub east : extent.east ≡ max (offset_of a.x) (offset_of b.x)
  pub south : extent.south ≡ min (offset_of a.y) (offset_of b.y)
  pub north : extent.north ≡ max (offset_of a.y) (offset_of b.y)

-- the box is round the thing, and reaches the band
pub record IsBandedOf (m : Map) (height : ℕ) (b : Banded) : Type 0 where
  pub round : IsRound (thing_start m b.thing) (thing_end m b.thing) b.extent
  pub low : b.extent.south / height ≤ b.band
  pub high : b.band ≤ b.extent.north / height

-- the thing, and its band
abbrev pub spot_of : Banded → Thing × ℕ
spot_of b = (b.thing, b.band)

-- the lowest and the highest band that the thing reaches
abbrev pub lowest_band : Map → ℕ → Thing → ℕ
lowest_band m height t = min (offset_of (thing_start m t).y) (offset_of (thing_end m t).y) / height

abbrev pub highest_band : Map → ℕ → Thing → ℕ
highest_band m height t = max (offset_of (thing_start m t).y) (offset_of (thing_end m t).y) / height

-- the edge is of an earlier arc than this one, or of this arc and before this place
abbrev pub IsEdgeBefore : ℕ → ℕ → EdgeRef → Type 0
IsEdgeBefore arc at e = (e.arc < arc) ⊎ ((e.arc ≡ arc) × (e.at < at))

-- the thing is such an edge, or an earlier feature point than this one
abbrev pub IsThingBefore : ℕ → ℕ → ℕ → Thing → Type 0
IsThingBefore arc at town (Edge e) = IsEdgeBefore arc at e
IsThingBefore arc at town (Town k) = k < town

-- these are such things of the map, in each band that their boxes reach, each once
abbrev pub AreBefore : Map → ℕ → ℕ → ℕ → ℕ → List Banded → Type 0
AreBefore m height arc at town things = AreGathered spot_of (IsBandedOf m height) (λ t. IsThingOf m t × IsThingBefore arc at town t)
    (lowest_band m height) (highest_band m height) things

-- these are all things of the map, in each band that their boxes reach, each once
abbrev pub AreOf : Map → ℕ → List Banded → Type 0
AreOf m height things = AreGathered spot_of (IsBandedOf m height) (IsThingOf m) (lowest_band m height) (highest_band m height) things

-- things are ordered by band, then by least x
abbrev pub key_of : Banded → ℕ
key_of b = b.band * 2 ^ 32 + b.extent.west
