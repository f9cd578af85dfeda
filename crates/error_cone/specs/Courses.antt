-- A cone that goes along numbered places which run strictly one way.
use Rattle.std.specs.Prelude.{◌≡◌, ◌<◌, ◌≤◌, ℕ, ℤ, Bool}
use Rattle.grid_exact.specs.Geometry.{Place, IsWithin}
use Rattle.grid_exact.specs.declared.frame.Frame.{Frame}
use Rattle.chain_side.specs.Along.{IsAlong}
use Rattle.error_cone.specs.Cone.{IsPast, Lets}
use Rattle.error_cone.specs.declared.cone.Cone.{Cone}

-- so many places rise in the order of the frame throughout, or fall throughout
abbrev pub RunsAlong : Frame → Bool → (ℕ → Place) → ℕ → Type 0
RunsAlong frame rising place count = (a b : ℕ) → a < b → b < count → IsAlong frame rising (place a) (place b)

-- each place strictly between the numbers i and j is within the bound of the segment between these two
abbrev pub IsNearBetween : (ℕ → Place) → ℤ → ℕ → ℕ → Type 0
IsNearBetween place bound i j = (k : ℕ) → i < k → k < j → IsWithin (place i) (place j) (place k) bound

-- the cone of the bound starts at the place number i of so many, and the later ones are past its start
pub record IsConeFrom (c : Cone) (place : ℕ → Place) (count : ℕ) (bound : ℤ) (i : ℕ) : Type 0 where
  pub origin : c.origin ≡ place i
  pub reach : c.bound ≡ bound
  pub later : (j : ℕ) → i < j → j < count → IsPast c (place j)

-- from the number `next` on, the cone lets each place to which the straight way from the place number i is within the bound of those
-- between
abbrev pub LetsNear : Cone → (ℕ → Place) → ℕ → ℤ → ℕ → ℕ → Type 0
LetsNear c place count bound i next = (j : ℕ) → next ≤ j → j < count → IsNearBetween place bound i j → Lets c (place j)
