use Rattle.std.proofs.Common.{◌≡◌, ◌-◌, ◌≤◌, length}
use Rattle.chain_replace.proofs.run.run_chains.Given as goal

abbrev pub invariant-loop-run : goal.invariant-loop-run
invariant-loop-run l = record {
  read : l.run.work.read ≡ l.fn.partly.map;
  terms : l.run.terms ≡ record { held = l.fn.partly.held; bound = l.fn.bound; weights = l.fn.weights };
  come : l.run.next ≤ length l.run.work.chains;
}

abbrev pub decreases-loop-run : goal.decreases-loop-run
decreases-loop-run l = length l.run.work.chains - l.run.next
