-- The law is a lemma on lines.
use Rattle.top_call.proofs.SameLines.{outcome_keeps_lines}
use Rattle.top_call.proofs.laws.outcome_keeps_lines.Goals as goal

pub returns : goal.returns
returns c = outcome_keeps_lines
