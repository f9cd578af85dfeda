-- What is written, followed by what is still to be written, is the joined arc.
use Rattle.std.proofs.Common.{◌≡◌, ◌+◌, ◌-◌, ◌≤◌, ◌++◌, length, take}
use Rattle.arc_map.specs.Rejoin.{run_from, tails, rejoined}
use Rattle.arc_map.proofs.work.rejoin.Given as goal

abbrev pub invariant-loop-next : goal.invariant-loop-next
invariant-loop-next l = record {
  order : l.next ≤ length l.chains;
  whole : take l.end l.arc.items ++ tails (run_from l.number l.next l.vertices l.chains)
      ≡ rejoined l.fn.arc.items (run_from l.number l.start l.vertices l.chains);
  room : l.end + length (tails (run_from l.number l.next l.vertices l.chains)) ≤ length l.arc.items;
  count : l.next + length (run_from l.number l.next l.vertices l.chains)
      ≡ l.start + length (run_from l.number l.start l.vertices l.chains);
}

abbrev pub decreases-loop-next : goal.decreases-loop-next
decreases-loop-next l = length l.chains - l.next
