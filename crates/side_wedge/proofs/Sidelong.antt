-- The sides of a line and the hands of a way.
use Rattle.std.proofs.Common.{◌↔◌, Bool, true, false, pos, ◌<ℤ◌, arith}
use Rattle.grid_exact.specs.Geometry.{Place, area_of}
use Rattle.grid_exact.specs.declared.frame.Frame.{Frame}
use Rattle.grid_exact.specs.declared.frame.Frame.TheVariants.{Plain, Turned}
use Rattle.grid_exact.proofs.WholeLaws.{sums}
use Rattle.grid_exact.proofs.Areas.{area_turned}
use Rattle.lane_kernels.specs.declared.side.Hand.{Hand}
use Rattle.lane_kernels.specs.declared.side.Hand.TheVariants.{Left, Right}
use Rattle.lane_kernels.specs.Hands.{IsOnSide}
use Rattle.side_wedge.specs.Lines.{IsSideOfLine, side_of}

-- to the left of the way is to the right of the way back
left_back : (a b p : Place) → (pos 0 <ℤ area_of a b p) ↔ (area_of b a p <ℤ pos 0)
left_back a b p = let turn = area_turned p a b in (λ h. omega (arith, sums), λ h. omega (arith, sums))

right_back : (a b p : Place) → (area_of a b p <ℤ pos 0) ↔ (pos 0 <ℤ area_of b a p)
right_back a b p = let turn = area_turned p a b in (λ h. omega (arith, sums), λ h. omega (arith, sums))

pub side_of_hand : (frame : Frame) (rising : Bool) (hand : Hand) (a b p : Place) → IsOnSide hand a b p
    ↔ IsSideOfLine frame rising a b p (side_of frame rising hand)
side_of_hand Plain true Left a b p = (λ h. h, λ h. h)
side_of_hand Plain true Right a b p = (λ h. h, λ h. h)
side_of_hand Plain false Left a b p = left_back a b p
side_of_hand Plain false Right a b p = right_back a b p
side_of_hand Turned true Left a b p = (λ h. h, λ h. h)
side_of_hand Turned true Right a b p = (λ h. h, λ h. h)
side_of_hand Turned false Left a b p = left_back a b p
side_of_hand Turned false Right a b p = right_back a b p
