use Rattle.std.proofs.Common.{◌+◌, ◌≤◌, ◌^◌, drop, length}
use Rattle.std.specs.Prelude.{sum_by}
use Rattle.face_parity.specs.Runs.{AreRunsBefore}
use Rattle.face_parity.proofs.runs.runs_of.Given as goal

abbrev pub invariant-loop-arc : goal.invariant-loop-arc
invariant-loop-arc l = record {
  runs : AreRunsBefore l.map l.floors l.arc l.runs.items;
  few : length l.runs.items + sum_by length (drop l.arc l.map.arcs) ≤ 2 ^ 20;
}
