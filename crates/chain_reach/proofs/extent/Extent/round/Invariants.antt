-- The places so far are in the box.
use Rattle.std.proofs.Common.{take}
use Rattle.std.specs.Prelude.{All}
use Rattle.chain_reach.specs.Extents.{IsInBox}
use Rattle.chain_reach.proofs.extent.Extent.round.Given as goal

abbrev pub invariant-loop-place : goal.invariant-loop-place
invariant-loop-place l = All (IsInBox l.low l.high) (take l.place-index l.places)
