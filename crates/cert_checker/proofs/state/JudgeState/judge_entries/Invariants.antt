use Rattle.cert_checker.proofs.Progress.{IsUnderWay}
use Rattle.cert_checker.proofs.state.JudgeState.judge_entries.Given as goal

abbrev pub invariant-loop-k : goal.invariant-loop-k
invariant-loop-k l = IsUnderWay l.fn.self l.self l.records.entries l.bound l.weights l.entry l.k
