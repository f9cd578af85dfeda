-- The arcs that were made so far, and the table of their edges.
use Rattle.std.specs.Prelude.{◌≡◌, ◌⊎◌, ℕ, ℤ, pos, negsuc, Bool, ◌&&◌, List, [], Option, Some, get_or, if◌then◌else◌, map}
use Rattle.indexmap.specs.IndexMap.{get}
use Rattle.grid_exact.specs.Geometry.{Place}
use Rattle.arc_map.specs.Ends.{is_same}
use Rattle.topo_build.specs.Found.{AreNext}
use Rattle.topo_build.specs.declared.arcs.Arcs.{Arcs}
use Rattle.topo_build.specs.declared.arcs.Edge.{Edge}
use Rattle.topo_build.specs.declared.step.Step.{Step}

-- the reference of an arc in one of its directions
abbrev pub reference : Step → ℤ
reference s = if s.forwards then pos s.arc else negsuc s.arc

abbrev pub arcs_in : Arcs → List (List Place)
arcs_in a = map (λ arc. arc.items) a.arcs.items

abbrev pub edge : Place → Place → Edge
edge a b = record { start = a; end = b }

abbrev pub same_edge : Edge → Edge → Bool
same_edge e f = is_same e.start f.start && is_same e.end f.end

-- the table has a number at each edge of each arc, and what it has at an edge is the number of an arc with this edge
pub record AreListed (arcs : List (List Place)) (found : Edge → Option ℕ) : Type 0 where
  pub all : (k : ℕ) (a b : Place) → AreNext a b (get_or arcs k []) → (j : ℕ) × (found (edge a b) ≡ Some j)
  pub right : (e : Edge) (k : ℕ) → found e ≡ Some k → AreNext e.start e.end (get_or arcs k [])

abbrev pub IsTable : Arcs → Type 0
IsTable a = AreListed (arcs_in a) (get same_edge a.edges)

-- the number was put at the edges of a walk, and nothing else was changed
pub record ArePut (walk : List Place) (number : ℕ) (before after : Edge → Option ℕ) : Type 0 where
  pub here : (a b : Place) → AreNext a b walk → after (edge a b) ≡ Some number
  pub other : (e : Edge) → (after e ≡ before e) ⊎ ((after e ≡ Some number) × AreNext e.start e.end walk)
