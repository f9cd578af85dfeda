use Rattle.pyramid.specs.LevelMemory.{IsComeTo}
use Rattle.pyramid.proofs.level.rank_all.Given as goal

abbrev pub invariant-loop-k : goal.invariant-loop-k
invariant-loop-k l = IsComeTo l.fn.arranged l.bounds l.k l.level
