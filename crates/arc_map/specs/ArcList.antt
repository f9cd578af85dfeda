-- Lists of arcs.
use Rattle.std.specs.Prelude.{◌≤◌, ◌^◌, ℕ, List, length}
use Rattle.std.specs.List.Sorted.{IsStrictlyIncreasing}

-- a list of arcs: strictly rising, and no longer than a map has arcs
pub record IsArcList (arcs : List ℕ) : Type 0 where
  pub rising : IsStrictlyIncreasing arcs
  pub few : length arcs ≤ 2 ^ 20
