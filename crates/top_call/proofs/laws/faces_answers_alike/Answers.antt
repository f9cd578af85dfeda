-- The law is a lemma on lines.
use Rattle.top_call.proofs.FacesAlike.{faces_answers_alike}
use Rattle.top_call.proofs.laws.faces_answers_alike.Goals as goal

pub returns : goal.returns
returns c = faces_answers_alike
