use Rattle.std.proofs.Common.{◌∷◌, take}
use Rattle.std.specs.Prelude.{All}
use Rattle.cert_checker.specs.Runs.{IsInBox}
use Rattle.cert_checker.proofs.extent.Extent.of.Given as goal

-- the box holds the places so far; its corners are the parts of the extent
abbrev pub invariant-loop-p : goal.invariant-loop-p
invariant-loop-p l = All (IsInBox l.extent.0 l.extent.1.0) (l.fn.first ∷ take l.p-index l.rest)
