-- The limit stands for the points so far.
use Rattle.std.proofs.Common.{◌-◌, ◌≤◌, Bool, length, Some}
use Rattle.grid_exact.specs.declared.frame.Frame.{Frame}
use Rattle.chain_side.specs.Along.{IsAlong}
use Rattle.lane_kernels.specs.Places.{EachBetween}
use Rattle.side_wedge.specs.Limits.{IsTightestOf}
use Rattle.side_wedge.proofs.limits.tightest_from.Given as goal

abbrev pub invariant-loop-ahead : goal.invariant-loop-ahead
invariant-loop-ahead l = record {
  in_lists : l.at ≤ length l.xs;
  reached : l.from ≤ l.at;
  so_far : (frame : Frame) (rising : Bool) → IsAlong frame rising l.start l.fn.first
      → EachBetween l.from (length l.xs) (IsAlong frame rising l.start) l.xs l.ys
      → IsTightestOf frame rising l.hand l.start (Some l.fn.first) l.xs l.ys l.from l.at (Some l.limit);
}

abbrev pub decreases-loop-ahead : goal.decreases-loop-ahead
decreases-loop-ahead l = length l.xs - l.at
