-- How rings lie in memory: their positions in one list, one ring behind the other.
use Rattle.std.specs.Prelude.{◌≡◌, ◌≤◌, ◌^◌, List, length, map, sum_by, slice_range, All}
use Rattle.grid_exact.specs.Geometry.{Place}
use Rattle.geo_reader.specs.declared.rings.Part.{Part}
use Rattle.geo_reader.specs.Geo.{IsRing}

abbrev pub ring_at : List Place → Part → List Place
ring_at positions part = slice_range positions part.start part.end

abbrev pub rings_of : List Place → List Part → List (List Place)
rings_of positions parts = map (ring_at positions) parts

-- a part lies in the list
pub record LiesIn (positions : List Place) (part : Part) : Type 0 where
  pub order : part.start ≤ part.end
  pub within : part.end ≤ length positions

-- the rings are rings, each lies in the list, and all take the whole of it, which is within the limit
pub record AreFlat (positions : List Place) (parts : List Part) : Type 0 where
  pub rings : All IsRing (rings_of positions parts)
  pub parts_lie : All (LiesIn positions) parts
  pub whole : length positions ≡ sum_by length (rings_of positions parts)
  pub few : length positions ≤ 2 ^ 19
