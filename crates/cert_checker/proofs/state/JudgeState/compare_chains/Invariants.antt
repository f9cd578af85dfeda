use Rattle.cert_checker.proofs.Listed.{AgreeTo}
use Rattle.cert_checker.proofs.state.JudgeState.compare_chains.Given as goal

-- the entries so far are of the chains so far that are not held
abbrev pub invariant-loop-k : goal.invariant-loop-k
invariant-loop-k l = AgreeTo l.self.held l.self.work.refs l.records.entries l.entry l.k
