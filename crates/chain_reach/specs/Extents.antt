-- Closed boxes, by their lowest and their highest corner.
use Rattle.std.specs.Prelude.{pos, ◌≤ℤ◌}
use Rattle.grid_exact.specs.Geometry.{Place}
use Rattle.chain_reach.specs.Reach.{IsHeldBy}
use Rattle.chain_reach.specs.declared.steps.Steps.{Steps}

-- q is no further to the right and no further up than p
pub record IsLowerLeft (q p : Place) : Type 0 where
  pub across : q.x ≤ℤ p.x
  pub up : q.y ≤ℤ p.y

-- the place is in the closed box from its corner `low` to its corner `high`
pub record IsInBox (low high p : Place) : Type 0 where
  pub from_low : IsLowerLeft low p
  pub to_high : IsLowerLeft p high

-- the place is in that box, grown by the steps on all four sides
abbrev pub IsWithinSteps : Steps → Place → Place → Place → Type 0
IsWithinSteps steps low high p = IsHeldBy (pos steps.across) (pos steps.up) (record { low = low; high = high }) p
