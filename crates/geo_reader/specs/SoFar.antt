-- What the code has read so far, as the walk has it.
use Rattle.geo_reader.specs.declared.geometries.SoFar.{SoFar}
use Rattle.geo_reader.specs.Geo.{Geo}

abbrev pub geo_so_far : SoFar → Geo
geo_so_far s = record { rings = s.rings; points = s.points.items; polygons = s.polygons.items }
