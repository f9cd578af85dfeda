use Rattle.std.proofs.Common.{◌<◌, ◌^◌, ◌-◌}
use Rattle.face_parity.proofs.cells.Sizes.height.Given as goal

abbrev pub invariant-loop-height : goal.invariant-loop-height
invariant-loop-height l = (0 < l.height) × (l.height < 2 ^ 31)

abbrev pub decreases-loop-height : goal.decreases-loop-height
decreases-loop-height l = 2 ^ 31 - l.height
