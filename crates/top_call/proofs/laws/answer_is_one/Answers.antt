-- The law is a lemma on answers.
use Rattle.top_call.proofs.AnswerOfWords.{answer_is_one}
use Rattle.top_call.proofs.laws.answer_is_one.Goals as goal

pub returns : goal.returns
returns c = answer_is_one
