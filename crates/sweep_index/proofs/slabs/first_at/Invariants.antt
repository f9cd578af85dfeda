use Rattle.std.proofs.Common.{◌≡◌, length}
use Rattle.sweep_index.specs.Slabs.{edges_at}
use Rattle.sweep_index.proofs.slabs.first_at.Given as goal

abbrev pub invariant-loop-edge : goal.invariant-loop-edge
invariant-loop-edge l = edges_at l.x l.fn.edges ≡ edges_at l.x l.rest

abbrev pub decreases-loop-edge : goal.decreases-loop-edge
decreases-loop-edge l = length l.rest
