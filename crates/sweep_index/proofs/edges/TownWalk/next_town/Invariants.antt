use Rattle.std.proofs.Common.{◌≡◌, length}
use Rattle.sweep_index.specs.EdgeWalks.{towns_left}
use Rattle.sweep_index.specs.Pairs.{towns_in}
use Rattle.sweep_index.specs.Sweeping.{meetings_left}
use Rattle.sweep_index.proofs.edges.TownWalk.next_town.Given as goal

abbrev pub invariant-loop-head : goal.invariant-loop-head
invariant-loop-head l = towns_left l.fn.self ≡ towns_in (meetings_left l.sweep)

abbrev pub decreases-loop-head : goal.decreases-loop-head
decreases-loop-head l = length (meetings_left l.sweep)
