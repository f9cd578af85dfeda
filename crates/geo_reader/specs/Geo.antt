-- What GeoJSON holds: its rings, its points, and how many rings each polygon has.
use Rattle.std.specs.Prelude.{◌≡◌, ◌≤◌, ◌^◌, ℕ, List, [], length, slice_get, sum, sum_by, All}
use Rattle.grid_exact.specs.Geometry.{Place}
use Rattle.topo_reader.specs.Arcs.{last_of}

pub record Geo : Type 0 where
  -- each as read, with the position that closes it, in the order of the walk
  pub rings : List (List Place)
  -- the positions of each Point and MultiPoint, in the order of the walk
  pub points : List Place
  -- for each Polygon and MultiPolygon, in the order of the walk, how many rings it has
  pub polygons : List ℕ

abbrev pub no_geo : Geo
no_geo = record { rings = []; points = []; polygons = [] }

-- a ring: four positions or more, of which the last is the first
pub record IsRing (ring : List Place) : Type 0 where
  pub long : 4 ≤ length ring
  pub closed : last_of ring ≡ slice_get ring 0

-- what holds of all that is read: the rings are rings, each is one of a polygon, and the counts are within the limits
pub record IsGeo (geo : Geo) : Type 0 where
  pub rings : All IsRing geo.rings
  pub shared : sum geo.polygons ≡ length geo.rings
  pub few_positions : sum_by length geo.rings ≤ 2 ^ 19
  pub few_points : length geo.points ≤ 2 ^ 20
  pub few_polygons : length geo.polygons ≤ 2 ^ 20
