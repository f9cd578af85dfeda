-- How many edges of an arc are crossed from a point.
use Rattle.std.specs.Prelude.{ℕ, List, [], ◌∷◌}
use Rattle.grid_exact.specs.Geometry.{Place}
use Rattle.grid_exact.specs.Crossing.{is_crossed}
use Rattle.grid_exact.specs.Walks.{count_edges}

abbrev pub crossings : Place → List Place → ℕ
crossings p [] = 0
crossings p (v ∷ ws) = count_edges (is_crossed p) v ws
