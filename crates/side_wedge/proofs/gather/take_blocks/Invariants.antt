-- What is near the edges so far is taken.
use Rattle.std.proofs.Common.{◌≡◌, ◌<◌, ◌≤◌, ◌-◌, length, vec_len, vec_capacity}
use Rattle.map_index.specs.IndexedMap.{items_in}
use Rattle.side_wedge.specs.Gathered.{AreStraysTo}
use Rattle.side_wedge.proofs.gather.take_blocks.Given as goal

abbrev pub invariant-loop-start : goal.invariant-loop-start
invariant-loop-start l = record {
  within : l.start < length l.subject.chain.now;
  some_edges : 0 < l.edges;
  some_parts : 0 < l.parts;
  few_parts : l.parts ≤ 64;
  taken : AreStraysTo l.subject.direction.frame l.subject.direction.rising l.subject.chain.now l.subject.number l.subject.steps l.map
      l.start l.strays.items;
  count : vec_len l.strays ≤ items_in l.map;
  capacity : vec_capacity l.strays ≡ vec_capacity l.fn.strays;
}

abbrev pub decreases-loop-start : goal.decreases-loop-start
decreases-loop-start l = length l.subject.chain.now - l.start
