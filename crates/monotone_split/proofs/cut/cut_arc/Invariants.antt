-- The arc is cut up to `from`.
use Rattle.std.proofs.Common.{◌-◌, length}
use Rattle.monotone_split.proofs.CutSoFar.{CutSoFar}
use Rattle.monotone_split.proofs.cut.cut_arc.Given as goal

abbrev pub invariant-loop-from : goal.invariant-loop-from
invariant-loop-from l = CutSoFar l.map l.number l.«from» l.initial.chains.items l.chains.items

abbrev pub decreases-loop-from : goal.decreases-loop-from
decreases-loop-from l = length l.arc - l.«from»
