use Rattle.std.proofs.Common.{◌≡◌, ◌++◌, drop, map}
use Rattle.face_parity.specs.Naming.{named_by}
use Rattle.face_parity.proofs.floors.push_part.Given as goal

abbrev pub invariant-loop-arc : goal.invariant-loop-arc
invariant-loop-arc l = l.namings.items ++ map (named_by l.polygon l.floor) (drop l.arc-index l.part) ≡ l.fn.namings.items
    ++ map (named_by l.polygon l.floor) l.part
