-- A map with the arcs that are held in it.
use Rattle.std.specs.Prelude.{ℕ, List}
use Rattle.arc_map.specs.Map.{Map}

pub record Holding : Type 0 where
  pub map : Map
  pub held : List ℕ
