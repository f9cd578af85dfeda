use Rattle.std.proofs.Common.{take}
use Rattle.std.specs.Prelude.{All}
use Rattle.grid_exact.specs.Geometry.{IsWithin}
use Rattle.grid_exact.specs.Near.{weighted}
use Rattle.cert_checker.proofs.plain.is_near.Given as goal

abbrev pub invariant-loop-p : goal.invariant-loop-p
invariant-loop-p l = All (λ p. IsWithin l.from l.to (weighted l.weights.x l.weights.y p) l.bound) (take l.p-index l.p-items)
