use Rattle.json_scan.proofs.Refusals.{same-refusal, not_refused, answered}
use Rattle.json_scan.proofs.laws.each_text_has_one_answer.Goals as goal

pub returns-clause-one : goal.returns-clause-one
returns-clause-one c = λ text. answered text

pub returns-clause-only : goal.returns-clause-only
returns-clause-only c = λ text e why. (λ f reason. same-refusal text e f why reason, λ nodes read. not_refused text nodes e read why)
