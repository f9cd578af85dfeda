use Rattle.std.proofs.Common.{◌<◌, ◌-◌, length}
use Rattle.chain_reach.proofs.blocks.size_of_blocks.Given as goal

-- the block begins within the walk
abbrev pub invariant-loop-start : goal.invariant-loop-start
invariant-loop-start l = l.start < length l.walk

abbrev pub decreases-loop-start : goal.decreases-loop-start
decreases-loop-start l = length l.walk - l.start
