-- What holds at each turn of the loop of `digits_end`, and that it ends.
use Rattle.std.proofs.Common.{ℕ, ◌-◌, ◌≤◌, List, length}
use Rattle.json_scan.specs.declared.node.Node.{Node}
use Rattle.json_scan.specs.declared.node.Open.{Open}
use Rattle.json_scan.specs.Machine.{state, InNumber}
use Rattle.json_scan.specs.Walks.{Continues}
use Rattle.json_scan.proofs.tokens.digits_end.Given as goal

abbrev pub invariant-loop-end : goal.invariant-loop-end
invariant-loop-end l = record {
  from : l.at ≤ l.end;
  within : l.end ≤ length l.text;
  digits : (start : ℕ) (opened : List Open) (nodes : List Node)
      → Continues l.text (state (InNumber l.fn.part start) opened nodes l.at) (state (InNumber l.fn.part start) opened nodes l.end);
}

abbrev pub decreases-loop-end : goal.decreases-loop-end
decreases-loop-end l = length l.text - l.end
