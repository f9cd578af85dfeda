-- The arcs so far are as the chains make them up, and the others are as they were.
use Rattle.std.proofs.Common.{◌≡◌, ◌≤◌, ◌++◌, map, All, length, sum_by, take, drop}
use Rattle.arc_map.specs.Map.{IsArc}
use Rattle.arc_map.specs.Arcs.{arcs_now}
use Rattle.arc_map.specs.Live.{chain_of, live_chain}
use Rattle.arc_map.proofs.work.WorkMap.finish.Given as goal

abbrev pub invariant-loop-number : goal.invariant-loop-number
invariant-loop-number l = record {
  known : l.next ≤ length l.chains.items;
  count : length l.arcs.items ≡ length l.fn.self.read.arcs;
  settled : take l.number (map (λ arc. arc.items) l.arcs.items)
      ++ arcs_now l.number (drop l.number l.fn.self.read.arcs)
      (map (live_chain l.fn.self.read) (drop l.next (map (chain_of l.vertices.items) l.chains.items)))
      ≡ arcs_now 0 l.fn.self.read.arcs l.fn.self.chains;
  left : drop l.number (map (λ arc. arc.items) l.arcs.items) ≡ drop l.number l.fn.self.read.arcs;
  proper : All IsArc (map (λ arc. arc.items) l.arcs.items);
  fewer : sum_by length (map (λ arc. arc.items) l.arcs.items) ≤ sum_by length l.fn.self.read.arcs;
}
