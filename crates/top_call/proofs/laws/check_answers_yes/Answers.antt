-- The law is a lemma on answers.
use Rattle.top_call.proofs.OneAnswer.{check_answers_yes}
use Rattle.top_call.proofs.laws.check_answers_yes.Goals as goal

pub returns : goal.returns
returns c = check_answers_yes
