-- The namings of a map.
use Rattle.std.specs.Prelude.{◌≡◌, ◌+◌, length}
use Rattle.arc_map.specs.Map.{Map}
use Rattle.face_parity.specs.Naming.{AreNamings}
use Rattle.face_parity.specs.declared.namings.Namings.{Namings}

-- these are the namings of the arcs of the map by its polygons
pub record AreNamingsOf (m : Map) (n : Namings) : Type 0 where
  pub starts : length n.starts.items ≡ length m.arcs + 1
  pub namings : AreNamings m n.namings.items
