-- Sides of the line through two places of a chain, and the hands of the way from the one to the other.
use Rattle.std.specs.Prelude.{Bool, true, false}
use Rattle.grid_exact.specs.Geometry.{Place}
use Rattle.grid_exact.specs.declared.frame.Frame.{Frame}
use Rattle.grid_exact.specs.declared.frame.Frame.TheVariants.{Plain, Turned}
use Rattle.chain_side.specs.declared.sides.Side.{Side}
use Rattle.chain_side.specs.declared.sides.Side.TheVariants.{Above, On, Below, Outside}
use Rattle.chain_side.specs.Sides.{IsSideOfEdge}
use Rattle.lane_kernels.specs.declared.side.Hand.{Hand}
use Rattle.lane_kernels.specs.declared.side.Hand.TheVariants.{Left, Right}

-- p is on this side of the line through a and b, where b comes after a along a chain that rises in the order of the
-- frame, or that falls
abbrev pub IsSideOfLine : Frame → Bool → Place → Place → Place → Side → Type 0
IsSideOfLine frame true a b p side = IsSideOfEdge frame a b p side
IsSideOfLine frame false a b p side = IsSideOfEdge frame b a p side

-- above or below
abbrev pub IsAside : Side → Type 0
IsAside Above = Unit {0}
IsAside On = ⊥
IsAside Below = Unit {0}
IsAside Outside = ⊥

-- the side on which this hand of the way along the chain is
abbrev pub side_of : Frame → Bool → Hand → Side
side_of Plain true Left = Above
side_of Plain true Right = Below
side_of Plain false Left = Below
side_of Plain false Right = Above
side_of Turned true Left = Below
side_of Turned true Right = Above
side_of Turned false Left = Above
side_of Turned false Right = Below
