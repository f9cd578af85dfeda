-- The boxes in which what is near edges of a walk is looked for.
use Rattle.std.specs.Prelude.{◌<◌, ◌≤◌, ℕ, List}
use Rattle.grid_exact.specs.Geometry.{Place}
use Rattle.chain_reach.specs.Extents.{IsInBox}
use Rattle.chain_reach.specs.Steps.{IsNearEdge}
use Rattle.chain_reach.specs.declared.steps.Steps.{Steps}
use Rattle.chain_reach.specs.declared.extent.Extent.{Extent}

-- what is near an edge between the places number `start` and `end` of the walk, and in the box `whole`, is in the box `block`
abbrev pub AreFoundIn : List Place → ℕ → ℕ → Steps → Extent → Extent → Type 0
AreFoundIn walk start end steps whole block = (edge : ℕ) (p : Place) → start ≤ edge → edge < end → IsNearEdge steps walk p edge
    → IsInBox whole.low whole.high p → IsInBox block.low block.high p
