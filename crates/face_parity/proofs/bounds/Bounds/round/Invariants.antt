use Rattle.std.proofs.Common.{◌≤◌, ◌^◌, All, take}
use Rattle.face_parity.specs.Bounds.{IsIn}
use Rattle.face_parity.proofs.bounds.Bounds.round.Given as goal

abbrev pub invariant-loop-p : goal.invariant-loop-p
invariant-loop-p l = record {
  round : All (IsIn l.bounds) (take l.p-index l.positions);
  small : (l.bounds.east ≤ 2 ^ 30) × (l.bounds.north ≤ 2 ^ 30);
}
