use Rattle.std.proofs.Common.{◌+◌, ◌-◌, ◌<◌, ◌≤◌, length}
use Rattle.face_parity.proofs.Cutting.{AreRunsTo}
use Rattle.face_parity.proofs.runs.push_arc.Given as goal

abbrev pub invariant-loop-from : goal.invariant-loop-from
invariant-loop-from l = record {
  runs : AreRunsTo l.map l.floors l.arc l.from l.runs.items;
  within : l.from < length l.positions;
  few : length l.runs.items ≤ length l.fn.runs.items + l.from;
}

abbrev pub decreases-loop-from : goal.decreases-loop-from
decreases-loop-from l = length l.positions - l.from
