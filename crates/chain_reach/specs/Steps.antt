-- Reach in whole steps of the grid.
use Rattle.std.specs.Prelude.{◌<◌, ◌+◌, ℕ, ℤ, pos, ◌+ℤ◌, ◌*ℤ◌, ◌≤ℤ◌, ◌<ℤ◌, List, length}
use Rattle.grid_exact.specs.Geometry.{Place}
use Rattle.chain_side.specs.Along.{vertex_at}
use Rattle.chain_reach.specs.Reach.{IsInGrownBox, IsBySegment}
use Rattle.chain_reach.specs.declared.steps.Steps.{Steps as GivenSteps}

-- so many steps, each of which counts for the weight, are the most that twice the bound holds
pub record AreStepsOf (weight bound : ℤ) (steps : ℕ) : Type 0 where
  pub held : (weight *ℤ pos steps) ≤ℤ (pos 2 *ℤ bound)
  pub most : (pos 2 *ℤ bound) <ℤ (weight *ℤ (pos steps +ℤ pos 1))

-- p is in the box of the edge number `edge` of the walk along these places, grown by the steps
abbrev pub IsInEdgeBox : GivenSteps → List Place → Place → ℕ → Type 0
IsInEdgeBox steps walk p edge = IsInGrownBox (pos steps.across) (pos steps.up) p (vertex_at walk edge) (vertex_at walk (edge + 1))

-- p is in the box of some edge of the walk, grown by the steps
pub record IsInSomeEdgeBox (steps : GivenSteps) (walk : List Place) (p : Place) : Type 0 where
  pub edge : ℕ
  pub within : edge + 1 < length walk
  pub box : IsInEdgeBox steps walk p edge

-- p is near the segment ab: less than one step more than the steps from some place of it, on each axis
abbrev pub IsNearSegment : GivenSteps → Place → Place → Place → Type 0
IsNearSegment steps a b p = IsBySegment (pos steps.across +ℤ pos 1) (pos steps.up +ℤ pos 1) p a b

-- p is near the edge number `edge` of the walk
abbrev pub IsNearEdge : GivenSteps → List Place → Place → ℕ → Type 0
IsNearEdge steps walk p edge = IsNearSegment steps (vertex_at walk edge) (vertex_at walk (edge + 1)) p

-- p is near some edge of the walk
pub record IsNearSomeEdge (steps : GivenSteps) (walk : List Place) (p : Place) : Type 0 where
  pub edge : ℕ
  pub within : edge + 1 < length walk
  pub near : IsNearEdge steps walk p edge
