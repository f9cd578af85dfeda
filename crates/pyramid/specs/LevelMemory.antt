-- How a level lies in memory.
use Rattle.std.specs.Prelude.{◌≡◌, ℕ, ℤ, List, length}
use Rattle.arc_map.specs.Map.{Map}
use Rattle.pyramid.specs.Levels.{Level as LevelOf}
use Rattle.pyramid.specs.Places.{list_of, lists_of}
use Rattle.pyramid.specs.UnderWay.{IsUpTo}
use Rattle.pyramid.specs.declared.level.Level.{Level}

abbrev pub level_in : Level → LevelOf
level_in level = record { left = level.map; places = list_of level.places.items }

-- the ranks of the map have come to level number k by these bounds
pub record IsComeTo (m : Map) (bounds : List ℤ) (k : ℕ) (level : Level) : Type 0 where
  pub count : length level.places.items ≡ length m.arcs
  pub up_to : IsUpTo m bounds (lists_of level.ranks.items) k (level_in level)

-- it is a level of some map
pub record IsOnTheWay (level : Level) : Type 0 where
  pub read : Map
  pub bounds : List ℤ
  pub number : ℕ
  pub come : IsComeTo read bounds number level
