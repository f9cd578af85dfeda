-- What has to hold of a map and of the references of its rings, so that the text that is written of them can be read.
use Rattle.std.specs.Prelude.{◌≡◌, ◌≤◌, ◌^◌, max, true, ℕ, ℤ, List, length, sum_by}
use Rattle.std.specs.List.{AllByRecursion}
use Rattle.grid_exact.specs.Geometry.{Place}
use Rattle.grid_exact.specs.Walks.{end_of}
use Rattle.arc_map.specs.Map.{Map, IsArc}
use Rattle.topo_reader.specs.Positions.{is_grid_number}
use Rattle.topo_build.specs.References.{Leads}

-- the references lead from a position along a walk that ends there
pub record IsLoop (arcs : List (List Place)) (refs : List ℤ) : Type 0 where
  pub start : Place
  pub along : List Place
  pub leads : Leads arcs start refs along
  pub closed : end_of start along ≡ start

abbrev pub IsOnGrid : Place → Type 0
IsOnGrid p = (is_grid_number p.x ≡ true) × (is_grid_number p.y ≡ true)

-- how many positions of an arc are written: an arc of one has it twice
abbrev pub written_count : List Place → ℕ
written_count arc = max 2 (length arc)

-- the arcs can be written within the limits, and the rings are loops of them
pub record IsReadable (m : Map) (rings : List (List ℤ)) : Type 0 where
  pub arcs : AllByRecursion IsArc m.arcs
  pub on_grid : AllByRecursion (AllByRecursion IsOnGrid) m.arcs
  pub few_arcs : length m.arcs ≤ 2 ^ 20
  pub few_positions : sum_by written_count m.arcs ≤ 2 ^ 20
  pub loops : AllByRecursion (IsLoop m.arcs) rings
  pub few_references : sum_by length rings ≤ 2 ^ 22
