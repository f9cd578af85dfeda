-- What a wedge lets.
use Rattle.std.specs.Prelude.{◌≡◌, Bool}
use Rattle.grid_exact.specs.Geometry.{Place}
use Rattle.grid_exact.specs.declared.frame.Frame.{Frame}
use Rattle.chain_side.specs.Along.{IsAlong}
use Rattle.chain_side.specs.declared.sides.Side.{Side}
use Rattle.lane_kernels.specs.declared.side.Hand.TheVariants.{Left, Right}
use Rattle.side_wedge.specs.Lines.{IsSideOfLine}
use Rattle.side_wedge.specs.Limits.{IsWithinLimit}
use Rattle.side_wedge.specs.declared.wedge.Wedge.{Wedge}

-- the wedge lets v
pub record Lets (w : Wedge) (v : Place) : Type 0 where
  pub left : IsWithinLimit Left w.origin w.left v
  pub right : IsWithinLimit Right w.origin w.right v

-- the wedge starts at this place of a chain that rises in the order of the frame, or that falls
pub record StartsAt (w : Wedge) (frame : Frame) (rising : Bool) (start : Place) : Type 0 where
  pub in_frame : w.direction.frame ≡ frame
  pub direction : w.direction.rising ≡ rising
  pub place : w.origin ≡ start

-- p is strictly past the start of the wedge
abbrev pub IsPast : Wedge → Place → Type 0
IsPast w p = IsAlong w.direction.frame w.direction.rising w.origin p

-- p is on this side of the line through the start of the wedge and v
abbrev pub IsBesideWay : Wedge → Place → Place → Side → Type 0
IsBesideWay w v p side = IsSideOfLine w.direction.frame w.direction.rising w.origin v p side
