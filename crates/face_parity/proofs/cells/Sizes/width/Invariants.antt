use Rattle.std.proofs.Common.{◌<◌, ◌^◌, ◌-◌}
use Rattle.face_parity.proofs.cells.Sizes.width.Given as goal

abbrev pub invariant-loop-width : goal.invariant-loop-width
invariant-loop-width l = (0 < l.width) × (l.width < 2 ^ 31)

abbrev pub decreases-loop-width : goal.decreases-loop-width
decreases-loop-width l = 2 ^ 31 - l.width
