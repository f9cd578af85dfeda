-- What is near the edge in the parts so far is taken.
use Rattle.std.proofs.Common.{◌≡◌, ◌≤◌, vec_len, vec_capacity}
use Rattle.map_index.specs.IndexedMap.{items_in}
use Rattle.side_wedge.specs.Gathered.{AreStraysTo, AreStraysInParts}
use Rattle.side_wedge.proofs.gather.take_parts.Given as goal

abbrev pub invariant-loop-part : goal.invariant-loop-part
invariant-loop-part l = record {
  taken : AreStraysTo l.subject.direction.frame l.subject.direction.rising l.subject.chain.now l.subject.number l.subject.steps l.map
      l.start l.fn.strays.items → AreStraysInParts l.subject.direction.frame l.subject.direction.rising l.subject.chain.now l.subject.number
      l.subject.steps l.map l.start l.parts l.part l.strays.items;
  within : l.part ≤ l.parts;
  count : vec_len l.strays ≤ items_in l.map;
  capacity : vec_capacity l.strays ≡ vec_capacity l.fn.strays;
}
