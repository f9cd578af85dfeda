use Rattle.std.proofs.Common.{◌≡◌, length}
use Rattle.sweep_index.specs.EdgeWalks.{pairs_left}
use Rattle.sweep_index.specs.Pairs.{pairs_in}
use Rattle.sweep_index.specs.Sweeping.{meetings_left}
use Rattle.sweep_index.proofs.edges.PairWalk.next_pair.Given as goal

abbrev pub invariant-loop-head : goal.invariant-loop-head
invariant-loop-head l = pairs_left l.fn.self ≡ pairs_in (meetings_left l.sweep)

abbrev pub decreases-loop-head : goal.decreases-loop-head
decreases-loop-head l = length (meetings_left l.sweep)
