use Rattle.std.proofs.Common.{◌≡◌, ◌≤◌, ◌++◌, All, drop, take}
use Rattle.face_parity.specs.Floors.{ends_along, span_at}
use Rattle.face_parity.proofs.floors.push_ends.Given as goal

abbrev pub invariant-loop-arc : goal.invariant-loop-arc
invariant-loop-arc l = record {
  ends : l.ends.items ++ ends_along l.spans (drop l.arc-index l.refs) ≡ ends_along l.spans l.refs;
  low : All (λ arc. l.low ≤ (span_at l.spans arc).low) (take l.arc-index l.refs);
}
