-- What a cone lets.
use Rattle.std.specs.Prelude.{◌≡◌, ℤ, ◌<ℤ◌, Bool}
use Rattle.grid_exact.specs.Geometry.{Place}
use Rattle.grid_exact.specs.declared.frame.Frame.{Frame}
use Rattle.chain_side.specs.Along.{IsAlong}
use Rattle.error_cone.specs.Ways.{way_of, mirrored, IsUnder, MeetsSquare}
use Rattle.error_cone.specs.declared.cone.Cone.{Cone}
use Rattle.error_cone.specs.declared.ways.Way.{Way}

-- the cone starts at this place of a chain that rises in the order of the frame, or that falls, and has this bound
pub record StartsAt (c : Cone) (frame : Frame) (rising : Bool) (start : Place) (bound : ℤ) : Type 0 where
  pub in_frame : c.direction.frame ≡ frame
  pub direction : c.direction.rising ≡ rising
  pub place : c.origin ≡ start
  pub reach : c.bound ≡ bound

-- v is strictly past the start of the cone
abbrev pub IsPast : Cone → Place → Type 0
IsPast c v = IsAlong c.direction.frame c.direction.rising c.origin v

-- the way from the start of the cone to p, in the axes of the chain
abbrev pub way_to : Cone → Place → Way
way_to c p = way_of c.direction.frame c.direction.rising c.origin p

-- the cone lets v
pub record Lets (c : Cone) (v : Place) : Type 0 where
  pub above : IsUnder c.above (way_to c v)
  pub below : IsUnder c.below (mirrored (way_to c v))

-- the line from the start through v meets the square of all that is at most the bound off p on both axes, unless p itself is no further
-- across from the start
abbrev pub Passes : Cone → Place → Place → Type 0
Passes c p v = c.bound <ℤ (way_to c p).across → MeetsSquare c.bound (way_to c p) (way_to c v)
