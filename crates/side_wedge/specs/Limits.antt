-- The tightest of the places that must stay on one hand of the ways from a start.
use Rattle.std.specs.Prelude.{◌↔◌, ℕ, ℤ, Bool, true, false, List, Option, None, Some}
use Rattle.std.specs.Option.{ForSome}
use Rattle.grid_exact.specs.Geometry.{Place, turned}
use Rattle.grid_exact.specs.Crossing.{is_before}
use Rattle.grid_exact.specs.declared.frame.Frame.{Frame}
use Rattle.grid_exact.specs.declared.frame.Frame.TheVariants.{Plain, Turned}
use Rattle.chain_side.specs.Along.{IsAlong}
use Rattle.lane_kernels.specs.declared.side.Hand.{Hand}
use Rattle.lane_kernels.specs.declared.side.Hand.TheVariants.{Left, Right}
use Rattle.lane_kernels.specs.Hands.{IsOnSide}
use Rattle.lane_kernels.specs.Places.{EachBetween}

-- whether b comes after a along a chain that rises in the order of the frame, or that falls
abbrev pub is_along : Frame → Bool → Place → Place → Bool
is_along Plain true a b = is_before a b
is_along Plain false a b = is_before b a
is_along Turned true a b = is_before (turned a) (turned b)
is_along Turned false a b = is_before (turned b) (turned a)

-- the limit, where there is one, is strictly on this hand of the way from the start to v
abbrev pub IsWithinLimit : Hand → Place → Option Place → Place → Type 0
IsWithinLimit hand start None v = Unit {0}
IsWithinLimit hand start (Some p) v = IsOnSide hand start v p

-- where both limits are past the start, no way past it has the left limit on its left and the right limit on its right
abbrev pub AreCrossed : Frame → Bool → Place → Option Place → Option Place → Type 0
AreCrossed frame rising start left right = ForSome left (IsAlong frame rising start) → ForSome right (IsAlong frame rising start)
    → (v : Place) → IsAlong frame rising start v → IsWithinLimit Left start left v → ¬ (IsWithinLimit Right start right v)

-- the new limit stands for the old one and p: it is past the start, and is on this hand of the way to a place past the start
-- exactly where both are
pub record IsTighter (frame : Frame) (rising : Bool) (hand : Hand) (start : Place) (limit : Option Place) (p new : Place) : Type 0 where
  pub past : IsAlong frame rising start new
  pub same : (v : Place) → IsAlong frame rising start v → IsOnSide hand start v new
      ↔ (IsWithinLimit hand start limit v × IsOnSide hand start v p)

-- the new limit stands for the old one and the places of the lists from the number `from` to before the number `to`
pub record IsTightestOf (frame : Frame) (rising : Bool) (hand : Hand) (start : Place) (limit : Option Place) (xs ys : List ℤ) (from to : ℕ)
    (new : Option Place) : Type 0 where
  pub past : ForSome new (IsAlong frame rising start)
  pub same : (v : Place) → IsAlong frame rising start v → IsWithinLimit hand start new v
      ↔ (IsWithinLimit hand start limit v × EachBetween from to (IsOnSide hand start v) xs ys)
