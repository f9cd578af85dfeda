-- The law is a lemma on lines.
use Rattle.top_call.proofs.FacesAlike.{simplified_keeps_lines}
use Rattle.top_call.proofs.laws.simplified_keeps_lines.Goals as goal

pub returns : goal.returns
returns c = simplified_keeps_lines
