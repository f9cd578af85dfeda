-- p has come to the lower of two vertices and not passed the higher.
use Rattle.std.proofs.Common.{◌-◌, ◌<◌, length}
use Rattle.chain_side.specs.Along.{IsAlong, vertex_at}
use Rattle.chain_side.proofs.search.edge_at.Given as goal

abbrev pub invariant-loop-low : goal.invariant-loop-low
invariant-loop-low l = record {
  apart : l.low < l.high;
  in_chain : l.high < length l.chain;
  from_start : ¬ (IsAlong l.direction.frame l.direction.rising l.p (vertex_at l.chain l.low));
  to_end : ¬ (IsAlong l.direction.frame l.direction.rising (vertex_at l.chain l.high) l.p);
}

abbrev pub decreases-loop-low : goal.decreases-loop-low
decreases-loop-low l = l.high - l.low
