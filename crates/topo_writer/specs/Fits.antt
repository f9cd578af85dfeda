-- Which maps can stand in a text in the place of the one that it has.
use Rattle.std.specs.Prelude.{◌≡◌, ◌<◌, ◌≤◌, ℕ, List, length, slice_get, All, Contains}
use Rattle.grid_exact.specs.Geometry.{Place}
use Rattle.arc_map.specs.Map.{Map, IsArc}
use Rattle.arc_map.specs.Arranged.{arc_at}
use Rattle.topo_reader.specs.Arcs.{last_of}

-- an arc in the place of another: it begins and ends where that does, and has no more positions, all of them of that
pub record StandsFor (before after : List Place) : Type 0 where
  pub is_arc : IsArc after
  pub first : slice_get after 0 ≡ slice_get before 0
  pub last : last_of after ≡ last_of before
  pub places : All (Contains before) after
  pub short : length after ≤ length before

-- a map in the place of another: each arc stands for that with its number, and all else is as it was
pub record FitsIn (m new : Map) : Type 0 where
  pub count : length new.arcs ≡ length m.arcs
  pub arcs : (arc : ℕ) → arc < length m.arcs → StandsFor (arc_at m arc) (arc_at new arc)
  pub points : new.points ≡ m.points
  pub polygons : new.polygons ≡ m.polygons
  pub coded : new.coded ≡ m.coded
